use Rattle.spb_top.proofs.making.choose_pivots.Goals as goal

pub returns-in-L1-clause-valid : goal.returns-in-L1-clause-valid
returns-in-L1-clause-valid c = c.choose_objects.ensures.valid c.args.plan.space c.requires.objects

pub returns-in-LInf-clause-valid : goal.returns-in-LInf-clause-valid
returns-in-LInf-clause-valid c = c.choose_objects-in-LInf.ensures.valid c.args.plan.space c.requires.objects

pub returns-in-Hamming-clause-valid : goal.returns-in-Hamming-clause-valid
returns-in-Hamming-clause-valid c = c.choose_objects-in-Hamming.ensures.valid c.args.plan.space c.requires.objects

pub returns-in-Sets-clause-valid : goal.returns-in-Sets-clause-valid
returns-in-Sets-clause-valid c = c.choose_objects-in-Sets.ensures.valid c.args.plan.space c.requires.objects
