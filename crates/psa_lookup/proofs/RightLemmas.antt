-- A table whose places are the first of each address answers the searches among definitions.
use Rattle.std.proofs.Common.{◌≡◌, ◌+◌, ◌&&◌, ◌==◌, ℕ, zero, suc, Bool, true, false, List, [], ◌∷◌, map, slice_get, Some, None, not, if◌then◌else◌, refl, sym, ap, ◌∙◌, subst, rules}
use Rattle.std.proofs.lemmas.Bool.{false≢true}
use Rattle.std.proofs.lemmas.Iterator.Adapters.{position_from-zero}
use Rattle.std.specs.List.{position_from}
use Rattle.std.specs.Str.{bytes_eq}
use denote.Enum.Bare.{same_true}
use Rattle.psa_model.specs.Drafts.{same_texts}
use Rattle.psa_model.specs.PathNames.{Text}
use Rattle.psa_model.specs.declared.draft.DraftDefinition.{DraftDefinition}
use Rattle.psa_spaces.specs.contracts.key.Family as families
use Rattle.psa_spaces.specs.declared.key.Family.{Family}
use Rattle.psa_spaces.specs.declared.key.Family.TheVariants as kept
use Rattle.psa_spaces.specs.declared.key.Key.{Key}
use Rattle.psa_spaces.specs.Addresses.{Address, place_of}
use Rattle.psa_spaces.specs.Paths.{Path, IsPath, AreContainers}
use Rattle.psa_names.specs.NameSpaces as space
use Rattle.psa_names.specs.NameSpaces.{is_in_family, same_family, family_of}
use Rattle.psa_names.specs.Outlines.{Entry, Entries, entry_of}
use Rattle.psa_names.specs.Meanings.{has_name}
use Rattle.psa_lookup.specs.Keys.{kept_as, has_whole, has_inside, is_contained, whole_address, inside_address, family_kept, whole_wanted, inside_wanted, number_of, stands_at, first_with}
use Rattle.psa_lookup.specs.Numbers.{IsNumbered}
use Rattle.psa_lookup.specs.Tables.{meant, IsRight}
use Rattle.psa_lookup.proofs.AddressLemmas.{same_kept, kept-same, at-whole, at-inside, same-number, first-same}
use Rattle.psa_lookup.proofs.NumberLemmas.{texts-same}
use Rattle.psa_lookup.proofs.RepeatLemmas.{Stands}

pub kept-meant : (family : Family) → kept_as (meant family) ≡ family
kept-meant kept.Events = refl
kept-meant kept.Parameters = refl
kept-meant kept.FaultTrees = refl
kept-meant kept.Components = refl
kept-meant kept.Groups = refl
kept-meant kept.EventTrees = refl
kept-meant kept.InitiatingEvents = refl
kept-meant kept.FunctionalEvents = refl
kept-meant kept.Sequences = refl
kept-meant kept.Branches = refl
kept-meant kept.Rules = refl

no-more : (b : Bool) → (b && false) ≡ false
no-more true = refl
no-more false = refl

-- a definition of the family that is meant is kept so
in-family : (family : Family) (one : Entry) → same_kept (family_kept one) family ≡ is_in_family (meant family) one
in-family family one = ap (same_kept (family_kept one)) (sym (kept-meant family)) ∙ kept-same (family_of one.kind) (meant family)

kept-in : (family : Family) (one : Entry) → is_in_family (meant family) one ≡ true → family_kept one ≡ family
kept-in family one h = same_true families.the_type (search rules) (family_kept one) family (in-family family one ∙ h)

-- what is wanted wherever two tests pass is no test of its own
wanted-by : (w s t n : Bool) → (s ≡ true → t ≡ true → w ≡ true) → (w && (s && (t && n))) ≡ ((s && t) && n)
wanted-by w false t n h = no-more w
wanted-by w true false n h = no-more w
wanted-by w true true n h = ap (λ b. b && n) (h refl refl)

wanted-if : (w s t n : Bool) → (s ≡ true → w ≡ t) → (w && (s && n)) ≡ ((s && t) && n)
wanted-if w false t n h = no-more w
wanted-if w true t n h = ap (λ b. b && n) (h refl)

-- ---- the tests

inside-test : (paths : List Path) → AreContainers paths → (family : Family) (number : ℕ) (path : Path) (name : Text) → has_inside family (is_contained path) ≡ true → IsPath paths number path → (one : Entry) → Stands paths one
    → stands_at paths (inside_address family number name) one ≡ (is_in_family (meant family) one && same_texts one.container path && has_name name one)
inside-test paths are family number path name wanted at one there =
    at-inside (number_of paths one.container) one family number name
    ∙ ap (λ s. inside_wanted one && (s && ((number_of paths one.container == number) && bytes_eq one.name name))) (in-family family one)
    ∙ ap (λ t. inside_wanted one && (is_in_family (meant family) one && (t && bytes_eq one.name name))) (same-number paths are there.0 number one.container path there.1 at)
    ∙ wanted-by (inside_wanted one) (is_in_family (meant family) one) (same_texts one.container path) (bytes_eq one.name name)
    (λ s t. ap (λ (f : Family). has_inside f (is_contained one.container)) (kept-in family one s) ∙ ap (λ (p : Path). has_inside family (is_contained p)) (texts-same one.container path t) ∙ wanted)

scoped-wanted : (family : space.Family) → space.is_scoped family ≡ true → (private : Bool) → has_whole (kept_as family) private ≡ not private
scoped-wanted space.events h private = refl
scoped-wanted space.parameters h private = refl
scoped-wanted space.fault_trees h private = absurd (false≢true h)
scoped-wanted space.components h private = absurd (false≢true h)
scoped-wanted space.groups h private = absurd (false≢true h)
scoped-wanted space.event_trees h private = absurd (false≢true h)
scoped-wanted space.initiating_events h private = absurd (false≢true h)
scoped-wanted space.functional_events h private = absurd (false≢true h)
scoped-wanted space.sequences h private = absurd (false≢true h)
scoped-wanted space.branches h private = absurd (false≢true h)
scoped-wanted space.rules h private = absurd (false≢true h)

public-test : (number : ℕ) (family : Family) (name : Text) → space.is_scoped (meant family) ≡ true → (one : Entry)
    → (whole_wanted one && (same_kept (family_kept one) family && bytes_eq one.name name)) ≡ (is_in_family (meant family) one && not one.private && has_name name one)
public-test number family name scoped one =
    ap (λ s. whole_wanted one && (s && bytes_eq one.name name)) (in-family family one)
    ∙ wanted-if (whole_wanted one) (is_in_family (meant family) one) (not one.private) (bytes_eq one.name name)
    (λ s. ap (λ (f : Family). has_whole f one.private) (kept-in family one s ∙ sym (kept-meant family)) ∙ scoped-wanted (meant family) scoped one.private)

and-own : (b : Bool) → (b && true) ≡ b
and-own true = refl
and-own false = refl

whole-test : (family : Family) (name : Text) → ((private : Bool) → has_whole family private ≡ true) → (one : Entry)
    → (whole_wanted one && (same_kept (family_kept one) family && bytes_eq one.name name)) ≡ (is_in_family (meant family) one && has_name name one)
whole-test family name wanted one =
    ap (λ s. whole_wanted one && (s && bytes_eq one.name name)) (in-family family one)
    ∙ wanted-if (whole_wanted one) (is_in_family (meant family) one) true (bytes_eq one.name name)
    (λ s. ap (λ (f : Family). has_whole f one.private) (kept-in family one s) ∙ wanted one.private)
    ∙ ap (λ b. b && bytes_eq one.name name) (and-own (is_in_family (meant family) one))

first-never : {A : Type 0} (p : A → Bool) (from : ℕ) (xs : List A) → ((i : ℕ) (x : A) → slice_get xs i ≡ Some x → p x ≡ false) → position_from p from xs ≡ None
first-never p from [] never = refl
first-never p from (x ∷ xs) never =
    ap (λ b. if b then Some from else position_from p (from + 1) xs) (never 0 x refl) ∙ first-never p (from + 1) xs (λ i y at. never (suc i) y at)

elsewhere : (family : Family) (path : Path) (name : Text) (one : Entry) → (same_texts one.container path ≡ true → ⊥) → (is_in_family (meant family) one && same_texts one.container path && has_name name one) ≡ false
elsewhere family path name one other = by (same_texts one.container path) refl
  where
    by : (b : Bool) → same_texts one.container path ≡ b → (is_in_family (meant family) one && same_texts one.container path && has_name name one) ≡ false
    by true e = absurd (other e)
    by false e = rw e (ap (λ b. b && has_name name one) (no-more (is_in_family (meant family) one)))

-- ---- the table

pub right-table : (paths : List Path) → AreContainers paths → (entries : Entries) (places : List (Key × ℕ))
    → ((k : ℕ) (one : Entry) → slice_get entries k ≡ Some one → Stands paths one)
    → ((address : Address) → place_of places address ≡ first_with paths entries address)
    → IsRight entries paths places
right-table paths are entries places stand first = record {
  containers = are;
  inside = λ family number path name wanted at.
      first (inside_address family number name)
      ∙ first-same (stands_at paths (inside_address family number name)) (λ (one : Entry). is_in_family (meant family) one && same_texts one.container path && has_name name one) 0 entries
      (λ k one there. inside-test paths are family number path name wanted at one (stand k one there))
      ∙ sym (position_from-zero (λ (one : Entry). is_in_family (meant family) one && same_texts one.container path && has_name name one) entries);
  absent = λ family path name none.
      position_from-zero (λ (one : Entry). is_in_family (meant family) one && same_texts one.container path && has_name name one) entries
      ∙ first-never (λ (one : Entry). is_in_family (meant family) one && same_texts one.container path && has_name name one) 0 entries
      (λ k one there. elsewhere family path name one
      (λ same. let its = stand k one there in none its.0 (subst (λ (p : Path). IsPath paths its.0 p) (texts-same one.container path same) its.1)));
  public = λ family name scoped.
      first (whole_address family name)
      ∙ first-same (stands_at paths (whole_address family name)) (λ (one : Entry). is_in_family (meant family) one && not one.private && has_name name one) 0 entries
      (λ k one there. at-whole (number_of paths one.container) one family name ∙ public-test 0 family name scoped one)
      ∙ sym (position_from-zero (λ (one : Entry). is_in_family (meant family) one && not one.private && has_name name one) entries);
  whole = λ family name wanted.
      first (whole_address family name)
      ∙ first-same (stands_at paths (whole_address family name)) (λ (one : Entry). is_in_family (meant family) one && has_name name one) 0 entries
      (λ k one there. at-whole (number_of paths one.container) one family name ∙ whole-test family name wanted one)
      ∙ sym (position_from-zero (λ (one : Entry). is_in_family (meant family) one && has_name name one) entries);
}

-- the containers of a draft's definitions stand
pub containers-stand : (paths : List Path) (numbers : List ℕ) (definitions : List DraftDefinition) → IsNumbered paths numbers definitions → (k : ℕ) (one : Entry) → slice_get (map entry_of definitions) k ≡ Some one → Stands paths one
containers-stand paths numbers definitions is k one at =
    let its = mapped definitions k one at in
    let number = is.each k its.0 its.1 in
    subst (λ (e : Entry). Stands paths e) its.2 (number.0, number.2)
  where
    mapped : (ds : List DraftDefinition) (k : ℕ) (one : Entry) → slice_get (map entry_of ds) k ≡ Some one → (d : DraftDefinition) × (slice_get ds k ≡ Some d) × (entry_of d ≡ one)
    mapped [] k one at = absurd (cc)
    mapped (d ∷ ds) zero one at = (d, refl, (let same : entry_of d ≡ one = some-same (entry_of d) one at in same))
      where
        some-same : (x y : Entry) → Some x ≡ Some y → x ≡ y
        some-same x y h = cc
    mapped (d ∷ ds) (suc k) one at = mapped ds k one at
