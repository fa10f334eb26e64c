use Rattle.std.proofs.Common.{map}
use Rattle.std.specs.String.{string_bytes}
use Rattle.std.proofs.lemmas.Result.{err_from_is_err_and}
use Rattle.clap.specs.Words.{found_of}
use Rattle.psa_words.proofs.SettingsAnswerLemmas.{all_texts, refused_answer, taken_answer}
use Rattle.psa_words.proofs.read_words.Goals as goal

pub returns-in_err-matches : goal.returns-in_err-matches
returns-in_err-matches c =
    let p = err_from_is_err_and c.from_residual.result c.from_residual.ensures.1 in
    rw (p.1, p.2) (refused_answer (map string_bytes c.args.words.now.items) c.in_err-matches.field-0.0 (all_texts c.args.words.now.items)
    (rw c.as_slice.ensures.value at c.in_err-matches.ensures.refused))

pub returns : goal.returns
returns c =
    taken_answer (map string_bytes c.args.words.now.items) (found_of c.in_ok-matches.matches) c.settings.result (all_texts c.args.words.now.items)
    (rw c.as_slice.ensures.value at c.in_ok-matches.ensures.matches) (rw c.as_slice.ensures.value at c.in_ok-matches.ensures.passes) c.settings.ensures
