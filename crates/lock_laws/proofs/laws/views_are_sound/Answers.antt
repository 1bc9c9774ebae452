use Rattle.lock_laws.proofs.Sound.{view_sound}
use Rattle.lock_laws.proofs.laws.views_are_sound.Goals as goal

-- each view of a lock is sound by itself
pub returns : goal.returns
returns c = λ m i v l at. view_sound m l i v at
