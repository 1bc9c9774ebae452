use Rattle.space_model.proofs.heap.judge_brk.Goals as goal

-- where the heap grows two looks are a look
pub returns-then-has_room-clause-looked : goal.returns-then-has_room-clause-looked
returns-then-has_room-clause-looked g c = g.P.Pages.looks_on _ _ _ _ c.end_of-end.ensures.looked c.has_room.ensures.looked

-- and where it finds no room
pub returns-clause-looked : goal.returns-clause-looked
returns-clause-looked g c = g.P.Pages.looks_on _ _ _ _ c.end_of-end.ensures.looked c.has_room.ensures.looked

-- after a look the hand may look again
pub has_room-requires-clause-may : goal.has_room-requires-clause-may
has_room-requires-clause-may g c = (g.P.Pages.same_kinds _ _ _ c.requires.may c.end_of-end.ensures.looked).0
