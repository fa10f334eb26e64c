-- What is written in parts, one after another.
use Rattle.std.proofs.Common.{◌≡◌, ◌∙◌, ◌+◌, ◌<◌, ◌≤◌, ℕ, List, [], ◌++◌, Option, Result, Ok, Err, drop, get_or, length, refl, ap, sym, subst, append_assoc, append-nil, arith}
use Rattle.std.specs.Borrow.{Bor}
use Rattle.std.specs.Result.{IsErr}
use Rattle.std.proofs.lemmas.List.{drop_more, drop_all}
use Rattle.std.specs.Io.KnownBytes.{Appends}
use Rattle.std.proofs.KnownBytes.{Appends-nil, Appends-trans}
use Rattle.psa_ports.specs.Counts.{Rose}
use Rattle.psa_ports.specs.Sink.{AppendsPrefix}
use Rattle.psa_ports.proofs.WrittenPieceLemmas.{prefix-more, prefix-after, prefix-whole}
use Rattle.psa_report.specs.Pieces.{Writes, bytes_of}

-- The first bytes of a text are written, and these are left.
pub record Left (before now : Option (List ℕ)) (faults faults_now : ℕ) (rest text : List ℕ) : Type 0 where
  pub done : List ℕ
  pub appended : Appends before now done
  pub joins : done ++ rest ≡ text
  pub later : faults ≤ faults_now

-- nothing is written yet
pub left-start : (before : Option (List ℕ)) (faults : ℕ) (text : List ℕ) → Left before before faults faults text text
left-start before faults text = record {
  done = [];
  appended = Appends-nil before;
  joins = refl;
  later = omega arith;
}

-- a later count rose from an earlier one
rose-later : (a b c : ℕ) → a ≤ b → Rose b c → Rose a c
rose-later a b c le rose = omega (arith, le, rose)

module _ {E : Type 0} (before mid now : Option (List ℕ)) (a b c : ℕ) where
  -- one piece more
  pub left-more : (piece rest text : List ℕ) → Left before mid a b (piece ++ rest) text → Writes {E = E} mid now b c piece (Ok tt) → Left before now a c rest text
  left-more piece rest text left wrote = record {
    done = left.done ++ piece;
    appended = Appends-trans before mid now left.done piece left.appended wrote.whole;
    joins = append_assoc left.done piece rest ∙ left.joins;
    later = omega (arith, left.later, wrote.cause.later);
  }

  -- the sink refused within the next piece
  pub left-cut : (piece rest text : List ℕ) (e : E) {F : Type 0} (f : F) → Left before mid a b (piece ++ rest) text → Writes mid now b c piece (Err e) → Writes before now a c text (Err f)
  left-cut piece rest text e f left wrote = record {
    whole = tt;
    part = subst (AppendsPrefix before now) left.joins (prefix-after before mid now left.done (piece ++ rest) left.appended (prefix-more mid now piece rest wrote.part));
    cause = record {
      later = omega (arith, left.later, wrote.cause.later);
      failed = rose-later a b c left.later wrote.cause.failed;
    };
  }

-- all is written
pub left-end : {E : Type 0} (before now : Option (List ℕ)) (a b : ℕ) (text : List ℕ) → Left before now a b [] text → Writes {E = E} before now a b text (Ok tt)
left-end before now a b text left =
    let whole = subst (Appends before now) (sym (append-nil left.done) ∙ left.joins) left.appended in
    record { whole = whole; part = prefix-whole before now text whole; cause = record { later = left.later; failed = tt } }

-- what is left is one piece
pub left-last : {E : Type 0} (before mid now : Option (List ℕ)) (a b c : ℕ) (piece text : List ℕ) (result : Result (Unit {0}) E)
    → Left before mid a b piece text → Writes mid now b c piece result → Writes before now a c text result
left-last before mid now a b c piece text (Ok u) left wrote =
    left-end before now a c text (left-more before mid now a b c piece [] text (subst (λ rest. Left before mid a b rest text) (sym (append-nil piece)) left) wrote)
left-last before mid now a b c piece text (Err e) left wrote =
    left-cut before mid now a b c piece [] text e e (subst (λ rest. Left before mid a b rest text) (sym (append-nil piece)) left) wrote

-- a call that refused ends the text
pub left-stop : {E F : Type 0} (before mid now : Option (List ℕ)) (a b c : ℕ) (piece rest text : List ℕ) (called : Result (Unit {0}) E) (result : Result (Unit {0}) F) (e : E)
    → Left before mid a b (piece ++ rest) text → Writes mid now b c piece called → called ≡ Err e → IsErr result → Writes before now a c text result
left-stop before mid now a b c piece rest text called (Ok u) e left wrote refused failed = absurd (cc)
left-stop before mid now a b c piece rest text called (Err f) e left wrote refused failed =
    left-cut before mid now a b c piece rest text e f left (subst (Writes mid now b c piece) refused wrote)

-- a call that wrote its piece leads on
pub left-next : {E : Type 0} (before mid now : Option (List ℕ)) (a b c : ℕ) (piece rest text : List ℕ) (called : Result (Unit {0}) E) (u : Unit {0})
    → Left before mid a b (piece ++ rest) text → Writes mid now b c piece called → called ≡ Ok u → Left before now a c rest text
left-next before mid now a b c piece rest text called u left wrote done =
    left-more before mid now a b c piece rest text left (subst (Writes mid now b c piece) done wrote)

-- what is left, written otherwise
pub left-as : (before now : Option (List ℕ)) (a b : ℕ) (rest other text : List ℕ) → Left before now a b rest text → rest ≡ other → Left before now a b other text
left-as before now a b rest other text left same = subst (λ some. Left before now a b some text) same left

-- nothing is written yet of a text that is spelled otherwise
pub left-of : (before : Option (List ℕ)) (faults : ℕ) (rest text : List ℕ) → rest ≡ text → Left before before faults faults rest text
left-of before faults rest text same = left-as before before faults faults text rest text (left-start before faults text) (sym same)

-- the pieces from a place on
pub pieces-from : (pieces : List (Bor (List ℕ))) (i : ℕ) (d : Bor (List ℕ)) → i < length pieces
    → bytes_of (drop i pieces) ≡ (get_or pieces i d).now ++ bytes_of (drop (i + 1) pieces)
pieces-from pieces i d within = ap bytes_of (drop_more pieces i d within)

-- no piece is left
pub no-pieces : (pieces : List (Bor (List ℕ))) (i : ℕ) → length pieces ≤ i → bytes_of (drop i pieces) ≡ []
no-pieces pieces i past = ap bytes_of (drop_all i pieces past)

-- a text that is written by one call, spelled otherwise
pub written-as : {E : Type 0} (before now : Option (List ℕ)) (a b : ℕ) (piece text : List ℕ) (result : Result (Unit {0}) E)
    → Writes before now a b piece result → piece ≡ text → Writes before now a b text result
written-as before now a b piece text result wrote same = subst (λ some. Writes before now a b some result) same wrote
