use Rattle.std.proofs.Common.{arith}
use Rattle.spb_top.proofs.Counting.{four_tables, few_rows}
use Rattle.spb_top.proofs.checking.count_all.Goals as goal

pub overflow_add-result : goal.overflow_add-result
overflow_add-result g c =
    let E = g.D.Disk in
    let M = g.M.Metric in
    let four = four_tables c.args.store.now.tables c.requires.sound.four in
    let few = few_rows E.is_known E.image M.admitted M.dist c.args.store.now c.requires.sound in
    omega (arith, four, few, c.count.ensures.rows, c.count-2.ensures.rows)

pub overflow_add-result-2 : goal.overflow_add-result-2
overflow_add-result-2 g c =
    let E = g.D.Disk in
    let M = g.M.Metric in
    let four = four_tables c.args.store.now.tables c.requires.sound.four in
    let few = few_rows E.is_known E.image M.admitted M.dist c.args.store.now c.requires.sound in
    omega (arith, four, few, c.count.ensures.rows, c.count-2.ensures.rows, c.count-3.ensures.rows)

pub overflow_add-result-3 : goal.overflow_add-result-3
overflow_add-result-3 g c =
    let E = g.D.Disk in
    let M = g.M.Metric in
    let four = four_tables c.args.store.now.tables c.requires.sound.four in
    let few = few_rows E.is_known E.image M.admitted M.dist c.args.store.now c.requires.sound in
    omega (arith, four, few, c.count.ensures.rows, c.count-2.ensures.rows, c.count-3.ensures.rows, c.count-4.ensures.rows)

pub returns : goal.returns
returns g c =
    let four = four_tables c.args.store.now.tables c.requires.sound.four in
    omega (arith, four, c.count.ensures.rows, c.count-2.ensures.rows, c.count-3.ensures.rows, c.count-4.ensures.rows)
