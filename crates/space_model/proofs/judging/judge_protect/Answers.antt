use Rattle.space_model.proofs.judging.judge_protect.Goals as goal

-- two looks are a look
pub returns-in-Some-lowest-clause-looked : goal.returns-in-Some-lowest-clause-looked
returns-in-Some-lowest-clause-looked g c = g.P.Pages.looks_on _ _ _ _ c.lowest.ensures.looked c.lowest-2.ensures.looked

-- also where nothing bars the Protect
pub returns-in-None-clause-looked : goal.returns-in-None-clause-looked
returns-in-None-clause-looked g c = g.P.Pages.looks_on _ _ _ _ c.lowest.ensures.looked c.lowest-2.ensures.looked

-- after a look the hand may look again
pub lowest-requires-2-clause-may : goal.lowest-requires-2-clause-may
lowest-requires-2-clause-may g c = (g.P.Pages.same_kinds _ _ _ c.requires.may c.lowest.ensures.looked).0
