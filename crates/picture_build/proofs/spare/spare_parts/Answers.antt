use Rattle.picture_build.proofs.spare.spare_parts.Goals as goal

pub returns-in-Some-clause-places : goal.returns-in-Some-clause-places
returns-in-Some-clause-places c = c.emptied.ensures.places _ _ c.in-Some.ensures.places
