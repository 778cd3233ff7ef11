use Rattle.std.proofs.Common.{◌≡◌, ◌≤◌, length, drop, take, ap, ◌∙◌, sym, arith}
use Rattle.std.proofs.lemmas.List.{take_at, drop_at}
use Rattle.std.specs.Map.{keys_of}
use Rattle.redo_journal.specs.Header.{header_page}
use Rattle.redo_journal.specs.Change.{page_entries}
use Rattle.redo_journal.proofs.Headers.{length-header_page}
use Rattle.redo_journal.proofs.Pairs.{keys-page_entries}
use Rattle.redo_journal.proofs.staged.Staged.seal.Goals as goal

pub returns-clause-same : goal.returns-clause-same
returns-clause-same c =
    let ns = c.self.inside.numbers.items in
    let body = c.self.inside.body.items in
    let few : length c.as_slice.result.now ≤ 80 = omega (arith, c.self.invariant.few, ap length c.as_slice.ensures.value) in
    let long : length c.header_of-header.result ≡ 512 = ap length c.header_of-header.ensures ∙ length-header_page _ few in
    ap (λ xs. page_entries 512 ns (drop 512 xs)) c.replace_page.ensures.items
    ∙ ap (page_entries 512 ns) (drop_at c.header_of-header.result (drop 512 body) 512 long)
    ∙ ap (λ s. s.pages) c.self.view_is

pub returns-clause-header : goal.returns-clause-header
returns-clause-header c =
    let ns = c.self.inside.numbers.items in
    let body = c.self.inside.body.items in
    let few : length c.as_slice.result.now ≤ 80 = omega (arith, c.self.invariant.few, ap length c.as_slice.ensures.value) in
    let long : length c.header_of-header.result ≡ 512 = ap length c.header_of-header.ensures ∙ length-header_page _ few in
    ap (take 512) c.replace_page.ensures.items
    ∙ take_at c.header_of-header.result (drop 512 body) 512 long
    ∙ c.header_of-header.ensures
    ∙ ap header_page (c.as_slice.ensures.value ∙ sym (keys-page_entries 512 ns (drop 512 body)) ∙ ap (λ s. keys_of s.pages) c.self.view_is)
