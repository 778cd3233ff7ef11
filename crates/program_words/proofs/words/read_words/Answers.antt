use Rattle.std.proofs.Common.{◌≡◌, ◌∙◌, sym, map, true}
use Rattle.std.proofs.lemmas.Bool.{false≢true}
use Rattle.std.specs.String.{string_bytes}
use Rattle.clap.specs.Words.{app_of}
use Rattle.program_words.proofs.PlainNumbers.{all_plain, asked_in_range, each_plain, refused_asks_nothing}
use Rattle.program_words.proofs.Reading.{matches_ask, refusal_asks_nothing}
use Rattle.program_words.proofs.words.read_words.Goals as goal

pub returns-then-not-are_plain : goal.returns-then-not-are_plain
returns-then-not-are_plain c = record {
  exact = sym (refused_asks_nothing (map string_bytes c.args.words.now)
      (λ plain. false≢true (sym c.if-not-are_plain.true ∙ c.are_plain.ensures.1 (all_plain string_bytes c.args.words.now plain))));
  in_range = tt;
}

pub returns-in-Ok-try_get_matches_from : goal.returns-in-Ok-try_get_matches_from
returns-in-Ok-try_get_matches_from c =
    let plain = each_plain string_bytes c.args.words.now (c.are_plain.ensures.0 c.if-not-are_plain.false) in
    let parse = c.try_get_matches_from in
    let exact = c.asked_in.ensures ∙ matches_ask (app_of c.in-Ok.command) (map string_bytes c.args.words.now)
    parse.result c.in-Ok-try_get_matches_from.matches c.in-Ok.ensures plain c.in-Ok-try_get_matches_from.is
    parse.ensures.matches parse.ensures.kinds in record {
      exact = exact;
      in_range = asked_in_range (map string_bytes c.args.words.now) c.asked_in.result exact;
    }

pub returns : goal.returns
returns c =
    let plain = each_plain string_bytes c.args.words.now (c.are_plain.ensures.0 c.if-not-are_plain.false) in
    let parse = c.try_get_matches_from in record {
      exact = sym (refusal_asks_nothing (app_of c.in-Ok.command) (map string_bytes c.args.words.now)
          parse.result c.in-Err.e c.in-Ok.ensures plain c.in-Err.is parse.ensures.kinds
          (λ memory. let same : c.eq.result ≡ true = rw (c.kind.ensures ∙ memory) at c.eq.ensures in false≢true (sym c.if-eq.false ∙ same)));
      in_range = tt;
    }
