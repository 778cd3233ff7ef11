use Rattle.std.proofs.Common.{Bool, List, ℕ, Some, None, ap, sym, ◌∙◌, arith}
use Rattle.std.specs.Prelude.{if◌then◌else◌}
use Rattle.session.specs.Store.{state_of}
use Rattle.session.proofs.StoreLaws.{sample_late, sample_full, sample_kept}
use Rattle.session.proofs.store.Store.sample.Goals as goal

pub returns-then-not-self-clause-reply : goal.returns-then-not-self-clause-reply
returns-then-not-self-clause-reply c =
    let s = state_of c.args.self.now in
    sym (sample_late s c.args.object (ap (λ (b : Bool). if b then Some c.args.self.now.samples.items else None) c.if-not-self.true)).0

pub returns-then-not-self-clause-next : goal.returns-then-not-self-clause-next
returns-then-not-self-clause-next c =
    let s = state_of c.args.self.now in
    sym (sample_late s c.args.object (ap (λ (b : Bool). if b then Some c.args.self.now.samples.items else None) c.if-not-self.true)).1

pub returns-then-len-ge-SAMPLE_LIMIT-clause-reply : goal.returns-then-len-ge-SAMPLE_LIMIT-clause-reply
returns-then-len-ge-SAMPLE_LIMIT-clause-reply c =
    let s = state_of c.args.self.now in
    sym (sample_full s c.args.object c.args.self.now.samples.items
    (ap (λ (b : Bool). if b then Some c.args.self.now.samples.items else None) c.if-not-self.false) (omega (arith, c.len.ensures))).0

pub returns-then-len-ge-SAMPLE_LIMIT-clause-next : goal.returns-then-len-ge-SAMPLE_LIMIT-clause-next
returns-then-len-ge-SAMPLE_LIMIT-clause-next c =
    let s = state_of c.args.self.now in
    sym (sample_full s c.args.object c.args.self.now.samples.items
    (ap (λ (b : Bool). if b then Some c.args.self.now.samples.items else None) c.if-not-self.false) (omega (arith, c.len.ensures))).1

pub returns-clause-reply : goal.returns-clause-reply
returns-clause-reply c =
    let s = state_of c.args.self.now in
    sym (sample_kept s c.args.object c.args.self.now.samples.items
    (ap (λ (b : Bool). if b then Some c.args.self.now.samples.items else None) c.if-not-self.false) (omega (arith, c.len.ensures))).0

pub returns-clause-next : goal.returns-clause-next
returns-clause-next c =
    let s = state_of c.args.self.now in
    ap (λ (b : Bool). record s { samples = if b then Some c.push.new.self.items else None }) c.if-not-self.false
    ∙ ap (λ (kept : List (List ℕ)). record s { samples = Some kept }) c.in_ok-push.ensures.items
    ∙ sym (sample_kept s c.args.object c.args.self.now.samples.items
    (ap (λ (b : Bool). if b then Some c.args.self.now.samples.items else None) c.if-not-self.false) (omega (arith, c.len.ensures))).1
