use Rattle.space_model.proofs.CertainReplies.{ends_in_window}
use Rattle.space_model.proofs.laws.places_end_in_their_window.Goals as goal

-- a Map that binds no address ends in its hint's window
pub returns : goal.returns
returns c = ends_in_window
