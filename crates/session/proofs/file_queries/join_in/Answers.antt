use Rattle.std.proofs.Common.{◌≡◌, false, Some, sym, ap, ◌∙◌, rules}
use Rattle.spb_defs.specs.State.{allows_joins}
use Rattle.store_check.specs.declared.profile.Profile.{Profile}
use Rattle.session.proofs.FileLaws.{curve_of, no_join}
use Rattle.session.proofs.file_queries.join_in.Goals as goal

pub returns-then-not-allows_joins-clause-reply : goal.returns-then-not-allows_joins-clause-reply
returns-then-not-allows_joins-clause-reply g c = λ s in_state.
    let K = g.D.Disk in
    let shut = c.if-not-allows_joins.true in
    let no : c.allows_joins.result ≡ false = search (rules, shut) in
    no_join s c.args.c c.args.d c.args.radius
    (ap allows_joins (curve_of K.is_known K.image c.args.store.now s in_state ∙ ap (λ (p : Profile). Some p.curve) (sym c.profile.ensures))
    ∙ sym c.allows_joins.ensures ∙ no)

pub returns-clause-object : goal.returns-clause-object
returns-clause-object g c = c.join_of.ensures.object c.args.store.now.profile.space
