use Rattle.object_text.proofs.NumbersWritten.{l1_room, linf_room, sets_whole}
use Rattle.object_text.proofs.writing.write_object.Goals as goal

pub write_numbers-requires : goal.write_numbers-requires
write_numbers-requires c = record { some = l1_room c.args.space.now c.in-L1.dim c.in-L1.most c.args.object.now c.in-L1.is c.requires.fits c.requires.valid }

pub write_numbers-requires-in-LInf : goal.write_numbers-requires-in-LInf
write_numbers-requires-in-LInf c = record {
  some =
      linf_room c.args.space.now c.in-LInf.dim c.in-LInf.most c.args.object.now c.in-LInf.is c.requires.fits c.requires.valid;
}

pub write_set-requires : goal.write_set-requires
write_set-requires c = record { whole = sets_whole c.args.space.now c.in-Sets.universe c.in-Sets.most c.args.object.now c.in-Sets.is c.requires.valid }
