use Rattle.engine_tests.proofs.bounds.counted_tests_tell_the_same.Given as goal

abbrev pub ghosts-tested_twice : goal.ghosts-tested_twice
ghosts-tested_twice g a = record { name = a.blank.name; parts = a.blank.parts }
