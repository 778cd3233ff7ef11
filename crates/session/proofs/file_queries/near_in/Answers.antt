use Rattle.session.proofs.file_queries.near_in.Goals as goal

pub returns-clause-object : goal.returns-clause-object
returns-clause-object g c = c.near_of.ensures.object c.args.store.now.profile.space
