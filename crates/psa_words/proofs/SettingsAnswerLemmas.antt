-- What the answer of a reading of words is, by what the parser made of them.
use Rattle.std.proofs.Common.{◌≡◌, refl, List, [], ◌∷◌, Result, Err, map, Global}
use Rattle.std.specs.declared.string.String.{String}
use Rattle.std.specs.String.{string_bytes}
use Rattle.std.proofs.lemmas.Str.{IsUtf8-string_bytes}
use Rattle.clap.specs.Words.{fault_of, matches_of, rows_of}
use Rattle.clap.specs.declared.parser.matches.Found.{Found}
use Rattle.psa_model.specs.declared.settings.Settings.{Settings}
use Rattle.psa_words.specs.declared.fault.WordsError.{WordsError}
use Rattle.psa_words.specs.declared.fault.WordsError.TheVariants.{BadWords, Memory}
use Rattle.psa_words.specs.Answer.{Answers}
use Rattle.psa_words.specs.Reading.{Text}
use Rattle.psa_words.specs.Given.{settings_from, settings_of}
use Rattle.psa_words.specs.Found.{given_in}
use Rattle.psa_words.specs.Scram.{scram}
use Rattle.psa_words.proofs.ClapWalkLemmas.{AllTexts}
use Rattle.psa_words.proofs.ParsedWordsLemmas.{refused_words, taken_words}

-- Each word that the program is called with is UTF-8.
pub all_texts : (words : List (String Global)) → AllTexts (map string_bytes words)
all_texts [] = tt
all_texts (word ∷ words) = (IsUtf8-string_bytes word, all_texts words)

-- An answer that refuses the words is right where the parser refused them too, or where memory was wanting.
pub refused_answer : {M : Type 0} (words : List Text) (e : WordsError) → AllTexts words
    → ((let r : Result M WordsError = Err e in r) ≡ Err BadWords → fault_of scram words ≡ [] → ⊥) → Answers (settings_of words) (let r : Result Settings WordsError = Err e in r)
refused_answer words BadWords all loud = rw (refused_words words all (loud refl)) refl
refused_answer words Memory all loud = tt

-- The settings made of what the parser found are those that the words ask for.
pub taken_answer : (words : List Text) (found : Found) (r : Result Settings WordsError) → AllTexts words
    → rows_of found ≡ matches_of scram words → fault_of scram words ≡ [] → Answers (settings_from (given_in found)) r → Answers (settings_of words) r
taken_answer words found r all rows quiet answer = rw (taken_words words found all rows quiet) answer
