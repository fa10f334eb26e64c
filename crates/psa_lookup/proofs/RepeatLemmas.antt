-- The repeats that are found one after the other are the duplicates.
use Rattle.std.proofs.Common.{◌≡◌, ◌||◌, ◌&&◌, ◌==◌, ℕ, zero, suc, Bool, true, false, List, [], ◌∷◌, ◌++◌, length, map, filter, flat_map, take, slice_get, Option, Some, None, is_some, not, if◌then◌else◌, refl, sym, ap, ◌∙◌, subst, rules, append_assoc, append-nil}
use Rattle.std.proofs.lemmas.Bool.{false≢true}
use Rattle.std.specs.List.{list_any}
use Rattle.std.specs.Str.{bytes_eq}
use denote.Enum.Bare.{same_true}
use Rattle.psa_spaces.specs.contracts.key.Family as families
use Rattle.psa_model.specs.Drafts.{Position, position_of, path_position, reference_position, same_position, same_texts, stands_before, are_ascending}
use Rattle.psa_model.specs.PathNames.{Text}
use Rattle.psa_model.specs.declared.fault.FaultKind.TheVariants.{Duplicate}
use Rattle.psa_spaces.specs.Addresses.{Address}
use Rattle.psa_spaces.specs.Paths.{Path, IsPath, AreContainers}
use Rattle.psa_names.specs.NameSpaces as space
use Rattle.psa_names.specs.NameSpaces.{Space, Named, Family, spaces_of, scoped_spaces, same_space, same_family, share_space, repeats, named_in, named_state, all_named, is_scoped, is_inner, family_of}
use Rattle.psa_names.specs.NameFaults.{duplicates}
use Rattle.psa_names.specs.PlacedFaults.{PlacedFault, fault_at, fault_of}
use Rattle.psa_names.specs.Outlines.{Entry, Entries, ForkState}
use Rattle.psa_lookup.specs.Keys.{kept_as, has_whole, has_inside, is_contained, is_one_in_whole, whole_address, inside_address, family_kept, whole_wanted, inside_wanted, number_of, stands_at, first_with}
use Rattle.psa_lookup.specs.Repeats.{is_noted_by, repeats_before, same_state, lesser, least_from, states_in, least_state, is_behind, state_fault, state_repeat, definition_repeat, repeats_at, repeats_from}
use Rattle.psa_lookup.proofs.AddressLemmas.{same_kept, kept-same, at-whole, at-inside, same-number, first-some}
use Rattle.psa_lookup.proofs.BoolLemmas.{both, text-turned, eq-turned, any-map, any-flat, any-same, any-never, or-assoc, and-assoc}
use Rattle.psa_lookup.proofs.NumberLemmas.{number-is, texts-same, same-texts}
use Rattle.psa_lookup.proofs.PositionLemmas.{any-before, before-trans, before-split}

-- ---- the spaces of a definition

abbrev pub only_space : Bool → Space → List Space
only_space true its = its ∷ []
only_space false its = []

abbrev pub owns_whole : Family → Bool → Bool
owns_whole family private = has_whole (kept_as family) private && is_one_in_whole (kept_as family)

abbrev pub spaces_by : Family → Bool → List Text → List Space
spaces_by family private around =
    only_space (owns_whole family private) (space.whole_model family)
    ++ only_space (has_inside (kept_as family) (is_contained around)) (space.directly_in family around)

scoped-by : (family : Family) (one : Entry) (private : Bool) (around : List Text) → one.private ≡ private → one.container ≡ around → scoped_spaces family one ≡ only_space (not private) (space.whole_model family) ++ only_space (is_contained around) (space.directly_in family around)
scoped-by family one true [] e f = rw (e, f) refl
scoped-by family one true (name ∷ names) e f = rw (e, f) refl
scoped-by family one false [] e f = rw (e, f) refl
scoped-by family one false (name ∷ names) e f = rw (e, f) refl

and-own : (b : Bool) → (b && true) ≡ b
and-own true = refl
and-own false = refl

family-spaces : (family : Family) (one : Entry) → (if is_scoped family then scoped_spaces family one else if is_inner family then space.directly_in family one.container ∷ [] else space.whole_model family ∷ []) ≡ spaces_by family one.private one.container
family-spaces space.events one =
    scoped-by space.events one one.private one.container refl refl
    ∙ ap (λ b. only_space b (space.whole_model space.events) ++ only_space (is_contained one.container) (space.directly_in space.events one.container)) (sym (and-own (not one.private)))
family-spaces space.parameters one =
    scoped-by space.parameters one one.private one.container refl refl
    ∙ ap (λ b. only_space b (space.whole_model space.parameters) ++ only_space (is_contained one.container) (space.directly_in space.parameters one.container)) (sym (and-own (not one.private)))
family-spaces space.fault_trees one = refl
family-spaces space.components one = refl
family-spaces space.groups one = refl
family-spaces space.event_trees one = refl
family-spaces space.initiating_events one = refl
family-spaces space.functional_events one = refl
family-spaces space.sequences one = refl
family-spaces space.branches one = refl
family-spaces space.rules one = refl

pub its-spaces : (one : Entry) → spaces_of one ≡ spaces_by (family_of one.kind) one.private one.container
its-spaces one = family-spaces (family_of one.kind) one

-- ---- what shares a space

abbrev share : List Space → List Space → Bool
share ones others = list_any (λ its. list_any (same_space its) others) ones

no-more : (b : Bool) → (b && false) ≡ false
no-more true = refl
no-more false = refl

none-here : (b : Bool) → (b || false) ≡ b
none-here true = refl
none-here false = refl

share-by : (family another : Family) (private secret : Bool) (around other : List Text) → share (spaces_by family private around) (spaces_by another secret other)
    ≡ ((owns_whole family private && (owns_whole another secret && same_family family another))
    || (has_inside (kept_as family) (is_contained around) && (has_inside (kept_as another) (is_contained other) && (same_family family another && same_texts around other))))
share-by family another private secret around other =
    by (owns_whole family private) (owns_whole another secret) (has_inside (kept_as family) (is_contained around)) (has_inside (kept_as another) (is_contained other))
  where
    by : (w v i j : Bool) → share (only_space w (space.whole_model family) ++ only_space i (space.directly_in family around)) (only_space v (space.whole_model another) ++ only_space j (space.directly_in another other)) ≡ ((w && (v && same_family family another)) || (i && (j && (same_family family another && same_texts around other))))
    by true true true true = shorten (same_family family another) (same_family family another && same_texts around other)
      where
        shorten : (p q : Bool) → ((p || (false || false)) || ((false || (q || false)) || false)) ≡ (p || q)
        shorten true true = refl
        shorten true false = refl
        shorten false true = refl
        shorten false false = refl
    by true true true false = simp none-here refl
    by true true false true = simp none-here refl
    by true true false false = simp none-here refl
    by true false true true = simp none-here refl
    by true false true false = refl
    by true false false true = refl
    by true false false false = refl
    by false true true true = simp none-here refl
    by false true true false = refl
    by false true false true = refl
    by false true false false = refl
    by false false true true = simp none-here refl
    by false false true false = refl
    by false false false true = refl
    by false false false false = refl

-- a definition as it is named
abbrev pub named_as : Entry → Named
named_as one = record { position = position_of one.definition; place = one.place; name = one.name; spaces = spaces_of one }

abbrev pub shares_name : Entry → Entry → Bool
shares_name one other = bytes_eq other.name one.name && share_space (named_as one) (named_as other)

-- the same by addresses
abbrev pub at_one_address : List Path → Entry → Entry → Bool
at_one_address paths one other =
    ((whole_wanted one && stands_at paths (whole_address (family_kept one) one.name) other) && is_one_in_whole (family_kept one))
    || (inside_wanted one && stands_at paths (inside_address (family_kept one) (number_of paths one.container) one.name) other)

-- definitions of one family may have one name in the whole model, or not, alike
one-family : (family another : Family) → same_family family another ≡ true → is_one_in_whole (kept_as another) ≡ is_one_in_whole (kept_as family)
one-family family another same =
    ap is_one_in_whole (sym (same_true families.the_type (search rules) (kept_as family) (kept_as another) (kept-same family another ∙ same)))

absorbed : (w v u : Bool) → ((w && u) && (v && u)) ≡ ((w && v) && u)
absorbed true true true = refl
absorbed true true false = refl
absorbed true false true = refl
absorbed true false false = refl
absorbed false v u = refl

algebra : (n s t w u v a i j : Bool) → (s ≡ true → a ≡ u) → (n && ((w && u && (v && a && s)) || (i && (j && (s && t))))) ≡ (((w && (v && (s && n))) && u) || (i && (j && (s && (t && n)))))
algebra n false t w u v a i j same = simp no-more refl
algebra false true t w u v a i j same = simp no-more refl
algebra true true t w u v a i j same =
    ap (λ b. ((w && u) && ((v && b) && true)) || (i && (j && t))) (same refl)
    ∙ ap (λ b. ((w && u) && b) || (i && (j && t))) (and-own (v && u))
    ∙ ap (λ b. b || (i && (j && t))) (absorbed w v u ∙ ap (λ b. (w && b) && u) (sym (and-own v)))
    ∙ ap (λ b. ((w && (v && true)) && u) || (i && (j && b))) (sym (and-own t))

texts-turned : (xs ys : List Text) → same_texts xs ys ≡ same_texts ys xs
texts-turned xs ys = both (same_texts xs ys) (same_texts ys xs) (λ h. same-texts ys xs (sym (texts-same xs ys h))) (λ h. same-texts xs ys (sym (texts-same ys xs h)))

-- a definition has its container's number
abbrev pub Stands : List Path → Entry → Type 0
Stands paths one = (number : ℕ) × IsPath paths number one.container

stands-at-own : (paths : List Path) → AreContainers paths → (one : Entry) → Stands paths one → IsPath paths (number_of paths one.container) one.container
stands-at-own paths are one at = subst (λ n. IsPath paths n one.container) (sym (number-is paths are at.0 one.container at.1)) at.1

pub one-address : (paths : List Path) → AreContainers paths → (one other : Entry) → Stands paths one → Stands paths other → shares_name one other ≡ at_one_address paths one other
one-address paths are one other at there =
    let f = family_of one.kind in
    let g = family_of other.kind in
    let n = bytes_eq other.name one.name in
    let kept : same_kept (kept_as g) (kept_as f) ≡ same_family f g = kept-same g f ∙ eq-turned (space.family_number g) (space.family_number f) in
    let numbers : (number_of paths other.container == number_of paths one.container) ≡ same_texts one.container other.container =
    same-number paths are there.0 (number_of paths one.container) other.container one.container there.1 (stands-at-own paths are one at) ∙ texts-turned other.container one.container in
    ap (λ (b : List Space). n && share b (spaces_of other)) (its-spaces one)
    ∙ ap (λ (b : List Space). n && share (spaces_by f one.private one.container) b) (its-spaces other)
    ∙ ap (λ b. n && b) (share-by f g one.private other.private one.container other.container)
    ∙ algebra n (same_family f g) (same_texts one.container other.container) (whole_wanted one) (is_one_in_whole (kept_as f)) (whole_wanted other) (is_one_in_whole (kept_as g)) (inside_wanted one) (inside_wanted other) (one-family f g)
    ∙ ap (λ b. ((whole_wanted one && (whole_wanted other && (b && n))) && is_one_in_whole (kept_as f)) || (inside_wanted one && (inside_wanted other && (b && (same_texts one.container other.container && n))))) (sym kept)
    ∙ ap (λ b. ((whole_wanted one && (whole_wanted other && (same_kept (kept_as g) (kept_as f) && n))) && is_one_in_whole (kept_as f)) || (inside_wanted one && (inside_wanted other && (same_kept (kept_as g) (kept_as f) && (b && n))))) (sym numbers)
    ∙ ap (λ b. ((whole_wanted one && b) && is_one_in_whole (kept_as f)) || (inside_wanted one && (inside_wanted other && (same_kept (kept_as g) (kept_as f) && ((number_of paths other.container == number_of paths one.container) && n))))) (sym (at-whole (number_of paths other.container) other (kept_as f) one.name))
    ∙ ap (λ b. ((whole_wanted one && stands_at paths (whole_address (kept_as f) one.name) other) && is_one_in_whole (kept_as f)) || (inside_wanted one && b)) (sym (at-inside (number_of paths other.container) other (kept_as f) (number_of paths one.container) one.name))

-- ---- the definitions before one

swapped : (p q r s : Bool) → ((p || q) || (r || s)) ≡ ((p || r) || (q || s))
swapped true q r s = refl
swapped false true true s = refl
swapped false true false s = refl
swapped false false r s = refl

any-split : {A : Type 0} (a b c : Bool) (p q : A → Bool) (xs : List A) → list_any (λ x. ((a && p x) && c) || (b && q x)) xs ≡ (((a && list_any p xs) && c) || (b && list_any q xs))
any-split a b c p q [] = sym (simp no-more refl)
any-split {A} a b c p q (x ∷ xs) = ap (λ r. (((a && p x) && c) || (b && q x)) || r) (any-split a b c p q xs) ∙ by a b c
  where
    by : (a b c : Bool) → ((((a && p x) && c) || (b && q x)) || (((a && list_any p xs) && c) || (b && list_any q xs))) ≡ (((a && (p x || list_any p xs)) && c) || (b && (q x || list_any q xs)))
    by true true true = simp and-own (swapped (p x) (q x) (list_any p xs) (list_any q xs))
    by true true false = simp no-more refl
    by true false true = simp (and-own, none-here) refl
    by true false false = simp no-more refl
    by false true c = refl
    by false false c = refl

any-same-in : {A : Type 0} (p q : A → Bool) (xs : List A) → ((i : ℕ) (x : A) → slice_get xs i ≡ Some x → p x ≡ q x) → list_any p xs ≡ list_any q xs
any-same-in p q [] same = refl
any-same-in p q (x ∷ xs) same = ap (λ b. b || list_any p xs) (same 0 x refl) ∙ ap (λ b. q x || b) (any-same-in p q xs (λ i y at. same (suc i) y at))

take-has : {A : Type 0} (i : ℕ) (xs : List A) (k : ℕ) (x : A) → slice_get (take i xs) k ≡ Some x → slice_get xs k ≡ Some x
take-has zero xs k x h = absurd (cc)
take-has (suc i) [] k x h = absurd (cc)
take-has (suc i) (y ∷ ys) zero x h = h
take-has (suc i) (y ∷ ys) (suc k) x h = take-has i ys k x h

no-state-space : (one : Entry) (position : Position) → share (spaces_of one) (space.states_of_fork position ∷ []) ≡ false
no-state-space one position =
    ap (λ (b : List Space). share b (space.states_of_fork position ∷ [])) (its-spaces one)
    ∙ by (owns_whole (family_of one.kind) one.private) (has_inside (kept_as (family_of one.kind)) (is_contained one.container))
  where
    by : (w i : Bool) → share (only_space w (space.whole_model (family_of one.kind)) ++ only_space i (space.directly_in (family_of one.kind) one.container)) (space.states_of_fork position ∷ []) ≡ false
    by true true = refl
    by true false = refl
    by false true = refl
    by false false = refl

no-state-before : (one : Entry) (state : ForkState) → repeats (named_as one) (named_state state) ≡ false
no-state-before one state =
    let b = stands_before (path_position state.path) (position_of one.definition) in
    let n = bytes_eq state.path.state one.name in
    and-assoc b n (share (spaces_of one) (space.states_of_fork (reference_position state.fork) ∷ []))
    ∙ ap (λ s. b && (n && s)) (no-state-space one (reference_position state.fork)) ∙ ap (λ s. b && s) (no-more n) ∙ no-more b

pub definition-repeats : (paths : List Path) → AreContainers paths → (entries : Entries) (i : ℕ) (one : Entry)
    → ((k : ℕ) (other : Entry) → slice_get entries k ≡ Some other → Stands paths other)
    → are_ascending (map (λ (e : Entry). position_of e.definition) entries) ≡ true → slice_get entries i ≡ Some one
    → list_any (repeats (named_as one)) (all_named entries) ≡ repeats_before paths (take i entries) one
definition-repeats paths are entries i one stand up at =
    any-flat (repeats (named_as one)) named_in entries
    ∙ any-same (λ (other : Entry). list_any (repeats (named_as one)) (named_in other)) (λ (other : Entry). stands_before (position_of other.definition) (position_of one.definition) && shares_name one other) entries
    (λ other. ap (λ b. repeats (named_as one) (named_as other) || b)
    (any-map (repeats (named_as one)) named_state other.states ∙ any-never (λ (s : ForkState). repeats (named_as one) (named_state s)) other.states (no-state-before one))
    ∙ none-here (repeats (named_as one) (named_as other))
    ∙ and-assoc (stands_before (position_of other.definition) (position_of one.definition)) (bytes_eq other.name one.name) (share_space (named_as one) (named_as other)))
    ∙ any-before (λ (e : Entry). position_of e.definition) (shares_name one) entries i one up at
    ∙ any-same-in (shares_name one) (at_one_address paths one) (take i entries)
    (λ k other there. one-address paths are one other (stand i one at) (stand k other (take-has i entries k other there)))
    ∙ any-split (whole_wanted one) (inside_wanted one) (is_one_in_whole (family_kept one)) (stands_at paths (whole_address (family_kept one) one.name)) (stands_at paths (inside_address (family_kept one) (number_of paths one.container) one.name)) (take i entries)
    ∙ ap (λ b. ((whole_wanted one && b) && is_one_in_whole (family_kept one)) || (inside_wanted one && list_any (stands_at paths (inside_address (family_kept one) (number_of paths one.container) one.name)) (take i entries)))
    (sym (first-some (stands_at paths (whole_address (family_kept one) one.name)) 0 (take i entries)))
    ∙ ap (λ b. ((whole_wanted one && is_some (first_with paths (take i entries) (whole_address (family_kept one) one.name))) && is_one_in_whole (family_kept one)) || (inside_wanted one && b))
    (sym (first-some (stands_at paths (inside_address (family_kept one) (number_of paths one.container) one.name)) 0 (take i entries)))

-- ---- the states before one

lesser-behind : (first : Option Position) (a b : Position) → is_behind (lesser first a) b ≡ (is_behind first b || stands_before a b)
lesser-behind None a b = refl
lesser-behind (Some c) a b = by (stands_before a c) (stands_before c b) (stands_before a b) refl refl refl
  where
    by : (p q r : Bool) → stands_before a c ≡ p → stands_before c b ≡ q → stands_before a b ≡ r → is_behind (lesser (Some c) a) b ≡ (stands_before c b || stands_before a b)
    by true true true e f g = simp (e, f, g) refl
    by true true false e f g = absurd (false≢true (sym g ∙ before-trans a c b e f))
    by true false r e f g = simp (e, f) refl
    by false true r e f g = simp (e, f) refl
    by false false false e f g = simp (e, f, g) refl
    by false false true e f g = absurd (false≢true (sym e ∙ before-split a c b g f))

pub least-behind : (state : ForkState) (first : Option Position) (others : List ForkState) (position : Position) → is_behind (least_from state first others) position ≡ (is_behind first position || list_any (λ (one : ForkState). same_state state one && stands_before (path_position one.path) position) others)
least-behind state first [] position = sym (none-here (is_behind first position))
least-behind state first (one ∷ others) position =
    least-behind state (if same_state state one then lesser first (path_position one.path) else first) others position
    ∙ by (same_state state one) refl
  where
    rest : Bool
    rest = list_any (λ (one : ForkState). same_state state one && stands_before (path_position one.path) position) others

    by : (b : Bool) → same_state state one ≡ b → (is_behind (if same_state state one then lesser first (path_position one.path) else first) position || rest) ≡ (is_behind first position || ((same_state state one && stands_before (path_position one.path) position) || rest))
    by true e = rw e (ap (λ b. b || rest) (lesser-behind first (path_position one.path) position) ∙ or-assoc (is_behind first position) (stands_before (path_position one.path) position) rest)
    by false e = rw e refl

state-by : (one other : ForkState) → repeats (named_state one) (named_state other) ≡ (same_state one other && stands_before (path_position other.path) (path_position one.path))
state-by one other =
    let b = stands_before (path_position other.path) (path_position one.path) in
    let s = same_position (reference_position one.fork) (reference_position other.fork) in
    and-assoc b (bytes_eq other.path.state one.path.state) ((s || false) || false)
    ∙ ap (λ n. b && (n && ((s || false) || false))) (text-turned other.path.state one.path.state)
    ∙ ap (λ x. b && (bytes_eq one.path.state other.path.state && x)) (none-here (s || false) ∙ none-here s)
    ∙ turned b (bytes_eq one.path.state other.path.state) s
  where
    turned : (b n s : Bool) → (b && (n && s)) ≡ ((s && n) && b)
    turned true true true = refl
    turned true true false = refl
    turned true false true = refl
    turned true false false = refl
    turned false n s = sym (no-more (s && n))

no-definition-before : (state : ForkState) (one : Entry) → repeats (named_state state) (named_as one) ≡ false
no-definition-before state one =
    let b = stands_before (position_of one.definition) (path_position state.path) in
    let n = bytes_eq one.name state.path.state in
    and-assoc b n (share (space.states_of_fork (reference_position state.fork) ∷ []) (spaces_of one))
    ∙ ap (λ (s : List Space). b && (n && share (space.states_of_fork (reference_position state.fork) ∷ []) s)) (its-spaces one)
    ∙ ap (λ s. b && (n && s)) (by (owns_whole (family_of one.kind) one.private) (has_inside (kept_as (family_of one.kind)) (is_contained one.container)))
    ∙ ap (λ s. b && s) (no-more n) ∙ no-more b
  where
    by : (w i : Bool) → share (space.states_of_fork (reference_position state.fork) ∷ []) (only_space w (space.whole_model (family_of one.kind)) ++ only_space i (space.directly_in (family_of one.kind) one.container)) ≡ false
    by true true = refl
    by true false = refl
    by false true = refl
    by false false = refl

pub state-repeats : (entries : Entries) (state : ForkState) → list_any (repeats (named_state state)) (all_named entries) ≡ is_behind (least_state entries state) (path_position state.path)
state-repeats entries state =
    let test : ForkState → Bool = λ one. same_state state one && stands_before (path_position one.path) (path_position state.path) in
    any-flat (repeats (named_state state)) named_in entries
    ∙ any-same (λ (one : Entry). list_any (repeats (named_state state)) (named_in one)) (λ (one : Entry). list_any test one.states) entries
    (λ one. ap (λ b. b || list_any (repeats (named_state state)) (map named_state one.states)) (no-definition-before state one)
    ∙ any-map (repeats (named_state state)) named_state one.states
    ∙ any-same (λ (s : ForkState). repeats (named_state state) (named_state s)) test one.states (state-by state))
    ∙ sym (any-flat test (λ (one : Entry). one.states) entries)
    ∙ sym (least-behind state None (states_in entries) (path_position state.path))

-- ---- all of them

abbrev faults : List Named → List PlacedFault
faults ones = map (λ one. fault_at Duplicate one.position one.place one.name) ones

faults-append : (xs ys : List Named) (test : Named → Bool) → faults (filter test (xs ++ ys)) ≡ faults (filter test xs) ++ faults (filter test ys)
faults-append [] ys test = refl
faults-append (x ∷ xs) ys test = by (test x) refl (faults-append xs ys test)
  where
    by : (b : Bool) → test x ≡ b → faults (filter test (xs ++ ys)) ≡ faults (filter test xs) ++ faults (filter test ys) → faults (filter test ((x ∷ xs) ++ ys)) ≡ faults (filter test (x ∷ xs)) ++ faults (filter test ys)
    by true e rest = rw e (ap (λ (l : List PlacedFault). fault_at Duplicate x.position x.place x.name ∷ l) rest)
    by false e rest = rw e rest

its-faults : (test : Named → Bool) (repeats_its : Bool) (least : ForkState → Option Position) (one : Entry) (states : List ForkState)
    → test (named_as one) ≡ repeats_its
    → ((state : ForkState) → test (named_state state) ≡ is_behind (least state) (path_position state.path))
    → faults (filter test (named_as one ∷ map named_state states)) ≡ definition_repeat repeats_its one ++ flat_map (state_repeat least) states
its-faults test repeats_its least one states is each = by repeats_its is
  where
    all : (states : List ForkState) → faults (filter test (map named_state states)) ≡ flat_map (state_repeat least) states
    all [] = refl
    all (state ∷ more) = pick (is_behind (least state) (path_position state.path)) (each state) refl (all more)
      where
        pick : (b : Bool) → test (named_state state) ≡ b → is_behind (least state) (path_position state.path) ≡ b → faults (filter test (map named_state more)) ≡ flat_map (state_repeat least) more → faults (filter test (map named_state (state ∷ more))) ≡ flat_map (state_repeat least) (state ∷ more)
        pick true e f rest = rw (e, f) (ap (λ (l : List PlacedFault). state_fault state ∷ l) rest)
        pick false e f rest = rw (e, f) rest

    by : (b : Bool) → test (named_as one) ≡ b → faults (filter test (named_as one ∷ map named_state states)) ≡ definition_repeat b one ++ flat_map (state_repeat least) states
    by true e = rw e (ap (λ (l : List PlacedFault). fault_of Duplicate one ∷ l) (all states))
    by false e = rw e (all states)

take-front : (before more : Entries) → take (length before) (before ++ more) ≡ before
take-front [] more = refl
take-front (x ∷ xs) more = ap (λ (l : Entries). x ∷ l) (take-front xs more)

at-middle : (before more : Entries) (one : Entry) → slice_get (before ++ one ∷ more) (length before) ≡ Some one
at-middle [] more one = refl
at-middle (x ∷ xs) more one = at-middle xs more one

repeats-rest : (paths : List Path) → AreContainers paths → (entries : Entries)
    → ((k : ℕ) (other : Entry) → slice_get entries k ≡ Some other → Stands paths other)
    → are_ascending (map (λ (e : Entry). position_of e.definition) entries) ≡ true
    → (before more : Entries) → before ++ more ≡ entries
    → faults (filter (λ one. list_any (repeats one) (all_named entries)) (all_named more)) ≡ repeats_from paths (least_state entries) before more
repeats-rest paths are entries stand up before [] is = refl
repeats-rest paths are entries stand up before (one ∷ more) is =
    let test : Named → Bool = λ its. list_any (repeats its) (all_named entries) in
    let here : slice_get entries (length before) ≡ Some one = ap (λ (l : Entries). slice_get l (length before)) (sym is) ∙ at-middle before more one in
    let front : take (length before) entries ≡ before = ap (take (length before)) (sym is) ∙ take-front before (one ∷ more) in
    let repeated : test (named_as one) ≡ repeats_before paths before one =
    definition-repeats paths are entries (length before) one stand up here ∙ ap (λ (l : Entries). repeats_before paths l one) front in
    faults-append (named_in one) (all_named more) test
    ∙ ap (λ (l : List PlacedFault). l ++ faults (filter test (all_named more))) (its-faults test (repeats_before paths before one) (least_state entries) one one.states repeated (state-repeats entries))
    ∙ ap (λ (l : List PlacedFault). repeats_at paths (least_state entries) before one ++ l)
    (repeats-rest paths are entries stand up (before ++ one ∷ []) more (append_assoc before (one ∷ []) more ∙ is))

pub all-repeats : (paths : List Path) → AreContainers paths → (entries : Entries)
    → ((k : ℕ) (other : Entry) → slice_get entries k ≡ Some other → Stands paths other)
    → are_ascending (map (λ (e : Entry). position_of e.definition) entries) ≡ true
    → duplicates entries ≡ repeats_from paths (least_state entries) [] entries
all-repeats paths are entries stand up = repeats-rest paths are entries stand up [] entries refl

-- one definition more
pub repeats-one : (paths : List Path) (least : ForkState → Option Position) (before more : Entries) (one : Entry) → repeats_from paths least before (more ++ one ∷ []) ≡ repeats_from paths least before more ++ repeats_at paths least (before ++ more) one
repeats-one paths least before [] one =
    append-nil (repeats_at paths least before one) ∙ ap (λ (l : Entries). repeats_at paths least l one) (sym (append-nil before))
repeats-one paths least before (x ∷ xs) one =
    ap (λ (l : List PlacedFault). repeats_at paths least before x ++ l)
    (repeats-one paths least (before ++ x ∷ []) xs one ∙ ap (λ (l : Entries). repeats_from paths least (before ++ x ∷ []) xs ++ repeats_at paths least l one) (append_assoc before (x ∷ []) xs))
    ∙ sym (append_assoc (repeats_at paths least before x) (repeats_from paths least (before ++ x ∷ []) xs) (repeats_at paths least (before ++ x ∷ xs) one))

-- two tables that answer alike find the same repeats
pub noted-by : (first second : Address → Option ℕ) (number : ℕ) (one : Entry) → ((address : Address) → first address ≡ second address) → is_noted_by first number one ≡ is_noted_by second number one
noted-by first second number one same =
    ap (λ o. ((whole_wanted one && is_some o) && is_one_in_whole (family_kept one)) || (inside_wanted one && is_some (first (inside_address (family_kept one) number one.name)))) (same (whole_address (family_kept one) one.name))
    ∙ ap (λ o. ((whole_wanted one && is_some (second (whole_address (family_kept one) one.name))) && is_one_in_whole (family_kept one)) || (inside_wanted one && is_some o)) (same (inside_address (family_kept one) number one.name))
