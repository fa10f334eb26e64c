-- A walk over formulas gives the ranks of a target: its events by the first places of their visits.
use Rattle.std.proofs.Common.{◌≡◌, ◌≤◌, ◌<◌, ◌+◌, ◌-◌, ℕ, suc, Bool, true, false, List, [], ◌∷◌, ◌++◌, Option, Some, None, length, map, take, drop, get_or, cond, nat_eq, eqb, ◌||◌, ◌&&◌, Result, Ok, Err, refl, ap, sym, ◌∙◌, subst, arith}
use Rattle.std.proofs.lemmas.Bool.Decides.{nat_tests}
use Rattle.std.proofs.lemmas.Grind.{flat_map-append}
use Rattle.std.proofs.lemmas.List.{take_all, take-append-drop, length-map, length-append, map-append}
use Rattle.std.specs.List.{slice_get, list_all, list_any, flat_map}
use Rattle.std.specs.HashSet.{HashSet, contains, IsEmpty}
use Rattle.psa_model.specs.declared.expanded.Expanded.{Expanded}
use Rattle.psa_model.specs.declared.formula.Connective.{Connective}
use Rattle.psa_model.specs.declared.formula.Formula.{Formula}
use Rattle.psa_model.specs.declared.formula.Formula.TheVariants as variant
use Rattle.psa_model.specs.declared.ids.EventId.{EventId}
use Rattle.psa_model.specs.declared.ids.EventNumber.{EventNumber}
use Rattle.psa_model.specs.declared.ids.FormulaId.{FormulaId}
use Rattle.psa_model.specs.declared.ids.GateId.{GateId}
use Rattle.psa_model.specs.declared.ids.HouseId.{HouseId}
use Rattle.psa_model.specs.declared.limits.TheConstants.{MAX_EVENTS}
use Rattle.psa_model.specs.declared.model.TheConstants.{MAX_DEPTH}
use Rattle.psa_model.specs.declared.model.Gate.{Gate}
use Rattle.psa_model.specs.declared.model.Model.{Model}
use Rattle.psa_model.specs.declared.targets.PathStep.{PathStep}
use Rattle.psa_model.specs.declared.targets.PathStep.TheVariants.{Collect, Set}
use Rattle.psa_model.specs.declared.targets.Target.{Target}
use Rattle.psa_model.specs.declared.targets.Target.TheVariants.{TopEvent}
use Rattle.psa_model.specs.Events.{events_of}
use Rattle.psa_model.specs.Ranks.{visits, target_visits, ranks_of}
use Rattle.psa_model.specs.Standing.{target_stands}
use Rattle.psa_model.specs.Targets.{Collected, collected, collected_formula}
use Rattle.psa_model.specs.Truth.{IsResolved, within, at_gate}
use Rattle.psa_model.proofs.Levels.{visits-gate, visits-basic, visits-house, visits-constant, visits-connective, visits-more, some-level, arguments-within, gate-within, within-of-gate, and-left}
use Rattle.psa_prep.specs.declared.ranking.Ranking.{Ranking}
use Rattle.psa_prep.specs.declared.ranking.Stop.{Stop}
use Rattle.psa_prep.specs.declared.ranking.Stop.TheVariants as stop
use Rattle.psa_prep.specs.Ranking.{Ends, is_in, ranked, numbers, Agrees, AllEntered, AllCollected, IsSound, RanksMore, RanksList, Ranked, Exceeds, ExceedsAt, option_visits, step_visits}
use Rattle.psa_prep.proofs.ListLemmas.{at-place, take-next, flat-push, all-split}
use Rattle.psa_prep.proofs.RankLemmas.{is_in-push, ranked-append, all-stay, all-ranked, ranked-known, ranked-from-none, ranked-longer, ranked-new}

-- what holds of a walk that ends, and of one that stops
pub ends-map : {A : Type 0} (r : Result A Stop) (P Q R S : Type 0) → (P → R) → (Q → S) → Ends P Q r → Ends R S r
ends-map (Ok x) P Q R S f g h = f h
ends-map (Err stop.TooManyEvents) P Q R S f g h = g h
ends-map (Err stop.Memory) P Q R S f g h = tt

-- .. where it stops
pub stops-map : (A B : Type 0) (e : Stop) (P Q R S : Type 0) → (Q → S) → Ends {A = A} P Q (Err e) → Ends {A = B} R S (Err e)
stops-map A B stop.TooManyEvents P Q R S g h = g h
stops-map A B stop.Memory P Q R S g h = tt

-- what holds of the ranks so far is of the ranks and the seen events alone
pub agrees-kept : (now next : Ranking) → next.ranks ≡ now.ranks → next.seen ≡ now.seen → Agrees now → Agrees next
agrees-kept now next ranks seen agrees = record {
  seen = λ event. ap (λ set. contains nat_eq set event) seen ∙ agrees.seen event ∙ ap (λ rs. is_in (map (λ r. r.0) rs) event) (sym ranks);
  few = subst (λ (rs : List EventNumber). length rs ≤ MAX_EVENTS) (sym ranks) agrees.few;
}

pub entered-kept : (expanded : Expanded) (now next : Ranking) → next.ranks ≡ now.ranks → next.entered ≡ now.entered → AllEntered expanded now → AllEntered expanded next
entered-kept expanded now next ranks entered all gate left n deep =
    subst (λ (rs : List EventNumber). list_all (λ event. is_in (map (λ r. r.0) rs) event) (visits n expanded (variant.Gate (record { 0 = gate }))) ≡ true) (sym ranks)
    (all gate (subst (λ set. contains nat_eq set gate ≡ true) entered left) n deep)

pub collected-kept : (expanded : Expanded) (now next : Ranking) → next.ranks ≡ now.ranks → next.collected ≡ now.collected → AllCollected expanded now → AllCollected expanded next
collected-kept expanded now next ranks collected all formula left =
    subst (λ (rs : List EventNumber). list_all (λ event. is_in (map (λ r. r.0) rs) event) (option_visits expanded (slice_get expanded.model.formulas formula)) ≡ true) (sym ranks)
    (all formula (subst (λ set. contains nat_eq set formula ≡ true) collected left))

-- whether so many levels are enough for the formula
abbrev pub enough : Expanded → Formula → ℕ → Bool
enough expanded f n = within n expanded.model f

-- a step that only adds ranks keeps what was said of the gates that were left
pub sound-more : (expanded : Expanded) (events : List ℕ) (before after : Ranking) → IsSound expanded before → RanksMore events before after → IsSound expanded after
sound-more expanded events before after sound more = record {
  agrees = more.agrees;
  entered = λ gate left n deep.
      let was : contains nat_eq before.entered gate ≡ true = subst (λ set. contains nat_eq set gate ≡ true) more.entered left in
      subst (λ ns. list_all (λ event. is_in ns event) (visits n expanded (variant.Gate (record { 0 = gate }))) ≡ true) (sym more.ranks)
      (all-stay (numbers before) events (visits n expanded (variant.Gate (record { 0 = gate }))) (sound.entered gate was n deep));
  collected = λ formula left.
      let was : contains nat_eq before.collected formula ≡ true = subst (λ set. contains nat_eq set formula ≡ true) more.collected left in
      subst (λ ns. list_all (λ event. is_in ns event) (option_visits expanded (slice_get expanded.model.formulas formula)) ≡ true) (sym more.ranks)
      (all-stay (numbers before) events (option_visits expanded (slice_get expanded.model.formulas formula)) (sound.collected formula was));
}

-- events that all have a rank change none
pub ranked-none : (expanded : Expanded) (test : ℕ → Bool) (events : ℕ → List ℕ) (ranking : Ranking) → IsSound expanded ranking → ((n : ℕ) → test n ≡ true → list_all (λ event. is_in (numbers ranking) event) (events n) ≡ true) → Ranked expanded test events ranking ranking
ranked-none expanded test events ranking sound known = record {
  sound = sound;
  ranks = λ n deep. sym (ranked-known (numbers ranking) (events n) (known n deep));
}

-- the ranks after a formula, from the ranks before it
abbrev pub FormulaRanked : Expanded → Formula → Ranking → Ranking → Type 0
FormulaRanked expanded f before after = Ranked expanded (λ n. within n expanded.model f) (λ n. visits n expanded f) before after

-- a formula by its form: each form of formula has the ranks that its arm gives
pub ranked-as : (expanded : Expanded) (f g : Formula) (before after : Ranking) → f ≡ g → FormulaRanked expanded g before after → FormulaRanked expanded f before after
ranked-as expanded f g before after is done = subst (λ h. FormulaRanked expanded h before after) (sym is) done

pub ranked-basic : (expanded : Expanded) (f : Formula) (id : EventId) (events : List ℕ) (before after : Ranking) → f ≡ variant.Basic id → events ≡ events_of expanded id.0 → IsSound expanded before → RanksMore events before after → FormulaRanked expanded f before after
ranked-basic expanded f id events before after is are sound more = ranked-as expanded f (variant.Basic id) before after is (record {
  sound = sound-more expanded events before after sound more;
  ranks = λ n deep.
      more.ranks ∙ ap (ranked (numbers before)) (are ∙ sym (visits-basic n expanded id (some-level n expanded.model _ deep)));
})

pub ranked-house : (expanded : Expanded) (f : Formula) (id : HouseId) (ranking : Ranking) → f ≡ variant.House id → IsSound expanded ranking → FormulaRanked expanded f ranking ranking
ranked-house expanded f id ranking is sound = ranked-as expanded f (variant.House id) ranking ranking is (record {
  sound = sound;
  ranks = λ n deep. ap (ranked (numbers ranking)) (sym (visits-house n expanded id (some-level n expanded.model _ deep)));
})

pub ranked-constant : (expanded : Expanded) (f : Formula) (b : Bool) (ranking : Ranking) → f ≡ variant.Constant b → IsSound expanded ranking → FormulaRanked expanded f ranking ranking
ranked-constant expanded f b ranking is sound = ranked-as expanded f (variant.Constant b) ranking ranking is (record {
  sound = sound;
  ranks = λ n deep. ap (ranked (numbers ranking)) (sym (visits-constant n expanded b (some-level n expanded.model _ deep)));
})

-- the ranks after formulas one after another, from the ranks before them
abbrev pub AllRanked : Expanded → List Formula → Ranking → Ranking → Type 0
AllRanked expanded formulas before after = Ranked expanded (λ n. list_all (λ g. within n expanded.model g) formulas) (λ n. flat_map (λ g. visits n expanded g) formulas) before after

-- a connective has the ranks of its arguments one after another
pub ranked-connective : (expanded : Expanded) (f : Formula) (operator : Connective) (min max : ℕ) (arguments : List Formula) (before after : Ranking) → f ≡ variant.Connective operator min max arguments → AllRanked expanded arguments before after → FormulaRanked expanded f before after
ranked-connective expanded f operator min max arguments before after is all = ranked-as expanded f (variant.Connective operator min max arguments) before after is (record {
  sound = all.sound;
  ranks = λ n deep.
      all.ranks (n - 1) (arguments-within n expanded.model operator min max arguments deep)
      ∙ ap (ranked (numbers before)) (sym (visits-connective n expanded operator min max arguments (some-level n expanded.model _ deep)));
})

-- formulas one after another
pub ranked-start : (expanded : Expanded) (ranking : Ranking) → IsSound expanded ranking → AllRanked expanded [] ranking ranking
ranked-start expanded ranking sound = record { sound = sound; ranks = λ n deep. refl }

-- formulas one after another: one more, the one at a place, and all
pub ranked-push : (expanded : Expanded) (some : List Formula) (f : Formula) (before now next : Ranking) → AllRanked expanded some before now → FormulaRanked expanded f now next → AllRanked expanded (some ++ (f ∷ [])) before next
ranked-push expanded some f before now next all one = record {
  sound = one.sound;
  ranks = λ n deep.
      let parts = all-split (λ g. within n expanded.model g) some (f ∷ []) deep in
      one.ranks n (and-left (within n expanded.model f) true parts.1)
      ∙ ap (λ ns. ranked ns (visits n expanded f)) (all.ranks n parts.0)
      ∙ sym (ranked-append (numbers before) (flat_map (λ g. visits n expanded g) some) (visits n expanded f))
      ∙ ap (ranked (numbers before)) (sym (flat-push (λ g. visits n expanded g) some f));
}

pub ranked-more : (expanded : Expanded) (formulas : List Formula) (i : ℕ) (f : Formula) (before now next : Ranking) → i < length formulas → f ≡ get_or formulas i f → AllRanked expanded (take i formulas) before now → FormulaRanked expanded f now next → AllRanked expanded (take (i + 1) formulas) before next
ranked-more expanded formulas i f before now next inside is all one =
    let split : take (i + 1) formulas ≡ take i formulas ++ (f ∷ []) = take-next formulas i f inside is in
    subst (λ some. AllRanked expanded some before next) (sym split) (ranked-push expanded (take i formulas) f before now next all one)

pub ranked-end : (expanded : Expanded) (formulas : List Formula) (i : ℕ) (before after : Ranking) → length formulas ≤ i → AllRanked expanded (take i formulas) before after → AllRanked expanded formulas before after
ranked-end expanded formulas i before after past all = subst (λ some. AllRanked expanded some before after) (take_all i formulas past) all

-- a gate that was left
pub ranked-left : (expanded : Expanded) (id : GateId) (ranking : Ranking) → contains nat_eq ranking.entered id.0 ≡ true → IsSound expanded ranking → FormulaRanked expanded (variant.Gate id) ranking ranking
ranked-left expanded id ranking left sound = ranked-none expanded _ _ ranking sound (λ n deep. sound.entered id.0 left n deep)

-- a gate by its formula, and left
pub ranked-gate : (expanded : Expanded) (id : GateId) (gate : Gate) (before now next : Ranking) → slice_get expanded.model.gates id.0 ≡ Some gate → FormulaRanked expanded gate.formula before now → ((other : ℕ) → contains nat_eq next.entered other ≡ cond (nat_eq id.0 other) true (contains nat_eq now.entered other)) → next.ranks ≡ now.ranks → next.seen ≡ now.seen → next.collected ≡ now.collected → FormulaRanked expanded (variant.Gate id) before next
ranked-gate expanded id gate before now next found done entered same_ranks same_seen same_collected = record {
  sound = record { agrees = agrees; entered = left; collected = kept };
  ranks = λ n deep. same ∙ ranks n deep;
}
  where
    same : numbers next ≡ numbers now
    same = ap (map (λ event. event.0)) same_ranks

    agrees : Agrees next
    agrees = agrees-kept now next same_ranks same_seen done.sound.agrees

    kept : AllCollected expanded next
    kept = collected-kept expanded now next same_ranks same_collected done.sound.collected

    visits-is : (n : ℕ) → within n expanded.model (variant.Gate id) ≡ true → visits n expanded (variant.Gate id) ≡ visits (n - 1) expanded gate.formula
    visits-is n deep = visits-gate n expanded id (some-level n expanded.model _ deep) ∙ ap (at_gate [] (λ g. visits (n - 1) expanded g)) found

    ranks : (n : ℕ) → within n expanded.model (variant.Gate id) ≡ true → numbers now ≡ ranked (numbers before) (visits n expanded (variant.Gate id))
    ranks n deep = done.ranks (n - 1) (gate-within n expanded.model id gate deep found) ∙ ap (ranked (numbers before)) (sym (visits-is n deep))

    here : (n : ℕ) → within n expanded.model (variant.Gate id) ≡ true → list_all (λ event. is_in (numbers next) event) (visits n expanded (variant.Gate id)) ≡ true
    here n deep = subst (λ ns. list_all (λ event. is_in ns event) (visits n expanded (variant.Gate id)) ≡ true) (sym (same ∙ ranks n deep)) (all-ranked (numbers before) (visits n expanded (variant.Gate id)))

    same-id : (a b : ℕ) → nat_eq a b ≡ true → a ≡ b
    same-id a b h = grind (arith, nat_tests)

    by : (other : ℕ) (b : Bool) → nat_eq id.0 other ≡ b → contains nat_eq next.entered other ≡ cond b true (contains nat_eq now.entered other) → contains nat_eq next.entered other ≡ true → (n : ℕ) → within n expanded.model (variant.Gate (record { 0 = other })) ≡ true → list_all (λ event. is_in (numbers next) event) (visits n expanded (variant.Gate (record { 0 = other }))) ≡ true
    by other true at_id is h n = subst (λ v. within n expanded.model (variant.Gate (record { 0 = v })) ≡ true → list_all (λ event. is_in (numbers next) event) (visits n expanded (variant.Gate (record { 0 = v }))) ≡ true) (same-id id.0 other at_id) (here n)
    by other false at_id is h n = λ deep. subst (λ ns. list_all (λ event. is_in ns event) (visits n expanded (variant.Gate (record { 0 = other }))) ≡ true) (sym same) (done.sound.entered other (sym is ∙ h) n deep)

    left : AllEntered expanded next
    left other h n deep = by other (nat_eq id.0 other) refl (entered other) h n deep

-- a gate that does not stand
pub ranked-missing : (expanded : Expanded) (id : GateId) (ranking : Ranking) → slice_get expanded.model.gates id.0 ≡ None → IsSound expanded ranking → FormulaRanked expanded (variant.Gate id) ranking ranking
ranked-missing expanded id ranking missing sound = record {
  sound = sound;
  ranks = λ n deep. ap (ranked (numbers ranking)) (sym (visits-gate n expanded id (some-level n expanded.model _ deep) ∙ ap (at_gate [] (λ g. visits (n - 1) expanded g)) missing));
}

-- events one after another
more-push : (events : List ℕ) (x : ℕ) (before now next : Ranking) → RanksMore events before now → RanksMore (x ∷ []) now next → RanksMore (events ++ (x ∷ [])) before next
more-push events x before now next all one = record {
  agrees = one.agrees;
  ranks = one.ranks ∙ ap (λ ns. ranked ns (x ∷ [])) all.ranks ∙ sym (ranked-append (numbers before) events (x ∷ []));
  entered = one.entered ∙ all.entered;
  collected = one.collected ∙ all.collected;
}

-- the event at the next place is ranked
pub events-more : (events : List ℕ) (i x : ℕ) (before now next : Ranking) → i < length events → x ≡ get_or events i x → RanksMore (take i events) before now → RanksMore (x ∷ []) now next → RanksMore (take (i + 1) events) before next
events-more events i x before now next inside is all one =
    let split : take (i + 1) events ≡ take i events ++ (x ∷ []) = take-next events i x inside is in
    subst (λ es. RanksMore es before next) (sym split) (more-push (take i events) x before now next all one)

-- too many events for the gate's formula are too many for the gate
pub exceeds-gate : (expanded : Expanded) (id : GateId) (gate : Gate) (before : Ranking) → slice_get expanded.model.gates id.0 ≡ Some gate → ExceedsAt (λ n. within n expanded.model gate.formula) (λ n. visits n expanded gate.formula) before → ExceedsAt (λ n. within n expanded.model (variant.Gate id)) (λ n. visits n expanded (variant.Gate id)) before
exceeds-gate expanded id gate before found many n deep =
    subst (λ (events : List ℕ). MAX_EVENTS < length (ranked (numbers before) events))
    (sym (visits-gate n expanded id (some-level n expanded.model _ deep) ∙ ap (at_gate [] (λ g. visits (n - 1) expanded g)) found))
    (many (n - 1) (gate-within n expanded.model id gate deep found))

-- .. for a basic event's expanded events
pub exceeds-basic : (expanded : Expanded) (f : Formula) (id : EventId) (events : List ℕ) (before : Ranking) → f ≡ variant.Basic id → events ≡ events_of expanded id.0 → Exceeds events before → ExceedsAt (λ n. within n expanded.model f) (λ n. visits n expanded f) before
exceeds-basic expanded f id events before is are many =
    subst (λ h. ExceedsAt (λ n. within n expanded.model h) (λ n. visits n expanded h) before) (sym is)
    (λ n deep. subst (λ (es : List ℕ). MAX_EVENTS < length (ranked (numbers before) es)) (are ∙ sym (visits-basic n expanded id (some-level n expanded.model _ deep))) many)

-- .. for a formula by its form
pub exceeds-as : (expanded : Expanded) (f g : Formula) (before : Ranking) → f ≡ g → ExceedsAt (λ n. within n expanded.model g) (λ n. visits n expanded g) before → ExceedsAt (λ n. within n expanded.model f) (λ n. visits n expanded f) before
exceeds-as expanded f g before is many = subst (λ h. ExceedsAt (λ n. within n expanded.model h) (λ n. visits n expanded h) before) (sym is) many

-- .. for a connective's arguments
pub exceeds-connective : (expanded : Expanded) (f : Formula) (operator : Connective) (min max : ℕ) (arguments : List Formula) (before : Ranking) → f ≡ variant.Connective operator min max arguments → ExceedsAt (λ n. list_all (λ g. within n expanded.model g) arguments) (λ n. flat_map (λ g. visits n expanded g) arguments) before → ExceedsAt (λ n. within n expanded.model f) (λ n. visits n expanded f) before
exceeds-connective expanded f operator min max arguments before is many =
    exceeds-as expanded f (variant.Connective operator min max arguments) before is
    (λ n deep. subst (λ (es : List ℕ). MAX_EVENTS < length (ranked (numbers before) es)) (sym (visits-connective n expanded operator min max arguments (some-level n expanded.model _ deep)))
    (many (n - 1) (arguments-within n expanded.model operator min max arguments deep)))

-- too many events for the item at a place are too many for all
pub exceeds-at : {A : Type 0} (f : A → List ℕ) (xs : List A) (i : ℕ) (x : A) (before now : Ranking) → i < length xs → x ≡ get_or xs i x → numbers now ≡ ranked (numbers before) (flat_map f (take i xs)) → Exceeds (f x) now → Exceeds (flat_map f xs) before
exceeds-at f xs i x before now inside is ranks many =
    let here : ranked (numbers now) (f x) ≡ ranked (numbers before) (flat_map f (take (i + 1) xs)) =
    ap (λ ns. ranked ns (f x)) ranks
    ∙ sym (ranked-append (numbers before) (flat_map f (take i xs)) (f x))
    ∙ ap (ranked (numbers before)) (sym (ap (flat_map f) (take-next xs i x inside is) ∙ flat-push f (take i xs) x)) in
    let whole : flat_map f xs ≡ flat_map f (take (i + 1) xs) ++ flat_map f (drop (i + 1) xs) =
    ap (flat_map f) (sym (take-append-drop (i + 1) xs)) ∙ flat_map-append f (take (i + 1) xs) (drop (i + 1) xs) in
    let longer : length (ranked (numbers before) (flat_map f (take (i + 1) xs))) ≤ length (ranked (numbers before) (flat_map f xs)) =
    subst (λ (es : List ℕ). length (ranked (numbers before) (flat_map f (take (i + 1) xs))) ≤ length (ranked (numbers before) es)) (sym whole)
    (ranked-longer (numbers before) (flat_map f (take (i + 1) xs)) (flat_map f (drop (i + 1) xs))) in
    let same : length (ranked (numbers now) (f x)) ≡ length (ranked (numbers before) (flat_map f (take (i + 1) xs))) = ap length here in
    omega arith

-- .. for formulas
pub exceeds-formulas : (expanded : Expanded) (formulas : List Formula) (i : ℕ) (f : Formula) (before now : Ranking) → i < length formulas → f ≡ get_or formulas i f → AllRanked expanded (take i formulas) before now → ExceedsAt (λ n. within n expanded.model f) (λ n. visits n expanded f) now → ExceedsAt (λ n. list_all (λ g. within n expanded.model g) formulas) (λ n. flat_map (λ g. visits n expanded g) formulas) before
exceeds-formulas expanded formulas i f before now inside is all many n deep =
    let whole : take (i + 1) formulas ++ drop (i + 1) formulas ≡ formulas = take-append-drop (i + 1) formulas in
    let first = all-split (λ g. within n expanded.model g) (take (i + 1) formulas) (drop (i + 1) formulas)
    (subst (λ (gs : List Formula). list_all (λ g. within n expanded.model g) gs ≡ true) (sym whole) deep) in
    let parts = all-split (λ g. within n expanded.model g) (take i formulas) (f ∷ [])
    (subst (λ (gs : List Formula). list_all (λ g. within n expanded.model g) gs ≡ true) (take-next formulas i f inside is) first.0) in
    exceeds-at (λ g. visits n expanded g) formulas i f before now inside is (all.ranks n parts.0) (many n (and-left _ _ parts.1))

-- .. for events
pub exceeds-events : (events : List ℕ) (i x : ℕ) (before now : Ranking) → i < length events → x ≡ get_or events i x → RanksMore (take i events) before now → Exceeds (x ∷ []) now → Exceeds events before
exceeds-events events i x before now inside is all many =
    let single : (xs : List ℕ) → flat_map (λ (e : ℕ). e ∷ []) xs ≡ xs = flat-single in
    subst (λ (es : List ℕ). MAX_EVENTS < length (ranked (numbers before) es)) (single events)
    (exceeds-at (λ (e : ℕ). e ∷ []) events i x before now inside is (all.ranks ∙ ap (ranked (numbers before)) (sym (single (take i events)))) many)
  where
    flat-single : (xs : List ℕ) → flat_map (λ (e : ℕ). e ∷ []) xs ≡ xs
    flat-single [] = refl
    flat-single (y ∷ ys) = ap (λ zs. y ∷ zs) (flat-single ys)

-- ---- lists of events

-- no event
pub list-start : (expanded : Expanded) (ranking : Ranking) → IsSound expanded ranking → RanksList expanded [] ranking ranking
list-start expanded ranking sound = record { sound = sound; ranks = refl }

-- the events of one item more
pub list-more : {A : Type 0} (expanded : Expanded) (f : A → List ℕ) (xs : List A) (i : ℕ) (x : A) (before now next : Ranking) → i < length xs → x ≡ get_or xs i x → RanksList expanded (flat_map f (take i xs)) before now → RanksList expanded (f x) now next → RanksList expanded (flat_map f (take (i + 1) xs)) before next
list-more expanded f xs i x before now next inside is all one = record {
  sound = one.sound;
  ranks =
      one.ranks
      ∙ ap (λ ns. ranked ns (f x)) all.ranks
      ∙ sym (ranked-append (numbers before) (flat_map f (take i xs)) (f x))
      ∙ ap (ranked (numbers before)) (sym (ap (flat_map f) (take-next xs i x inside is) ∙ flat-push f (take i xs) x));
}

-- the events of all items
pub list-end : {A : Type 0} (expanded : Expanded) (f : A → List ℕ) (xs : List A) (i : ℕ) (before after : Ranking) → length xs ≤ i → RanksList expanded (flat_map f (take i xs)) before after → RanksList expanded (flat_map f xs) before after
list-end expanded f xs i before after past all = subst (λ some. RanksList expanded (flat_map f some) before after) (take_all i xs past) all

-- the events at so many levels
pub list-of : (expanded : Expanded) (n : ℕ) (f : Formula) (events : List ℕ) (before after : Ranking) → within n expanded.model f ≡ true → visits n expanded f ≡ events → FormulaRanked expanded f before after → RanksList expanded events before after
list-of expanded n f events before after deep are done = record { sound = done.sound; ranks = done.ranks n deep ∙ ap (ranked (numbers before)) are }

-- .. too many
pub exceeds-of : (expanded : Expanded) (n : ℕ) (f : Formula) (events : List ℕ) (before : Ranking) → within n expanded.model f ≡ true → visits n expanded f ≡ events → ExceedsAt (λ n. within n expanded.model f) (λ n. visits n expanded f) before → Exceeds events before
exceeds-of expanded n f events before deep are many = subst (λ (es : List ℕ). MAX_EVENTS < length (ranked (numbers before) es)) are (many n deep)

-- ---- collected formulas

-- a collected formula at the levels of a target
pub collected-visits : (expanded : Expanded) (id : FormulaId) (f : Formula) → IsResolved expanded.model → slice_get expanded.model.formulas id.0 ≡ Some f → visits MAX_DEPTH expanded f ≡ step_visits expanded (Collect id)
collected-visits expanded id f resolved found =
    sym (ap (option_visits expanded) found ∙ visits-more MAX_DEPTH expanded f (resolved.formulas id.0 f found))

-- one that was left
pub list-known : (expanded : Expanded) (id : FormulaId) (ranking : Ranking) → contains nat_eq ranking.collected id.0 ≡ true → IsSound expanded ranking → RanksList expanded (step_visits expanded (Collect id)) ranking ranking
list-known expanded id ranking left sound = record {
  sound = sound;
  ranks = sym (ranked-known (numbers ranking) (step_visits expanded (Collect id)) (sound.collected id.0 left));
}

-- one that does not stand
pub list-missing : (expanded : Expanded) (id : FormulaId) (ranking : Ranking) → slice_get expanded.model.formulas id.0 ≡ None → IsSound expanded ranking → RanksList expanded (step_visits expanded (Collect id)) ranking ranking
list-missing expanded id ranking missing sound = record { sound = sound; ranks = ap (ranked (numbers ranking)) (sym (ap (option_visits expanded) missing)) }

-- one that is left now
pub list-left : (expanded : Expanded) (id : FormulaId) (before now next : Ranking) → RanksList expanded (step_visits expanded (Collect id)) before now → ((other : ℕ) → contains nat_eq next.collected other ≡ cond (nat_eq id.0 other) true (contains nat_eq now.collected other)) → next.ranks ≡ now.ranks → next.seen ≡ now.seen → next.entered ≡ now.entered → RanksList expanded (step_visits expanded (Collect id)) before next
list-left expanded id before now next done collected same_ranks same_seen same_entered = record {
  sound = record { agrees = agrees-kept now next same_ranks same_seen done.sound.agrees; entered = entered-kept expanded now next same_ranks same_entered done.sound.entered; collected = all };
  ranks = same ∙ done.ranks;
}
  where
    same : numbers next ≡ numbers now
    same = ap (map (λ event. event.0)) same_ranks

    same-id : (a b : ℕ) → nat_eq a b ≡ true → a ≡ b
    same-id a b h = grind (arith, nat_tests)

    here : list_all (λ event. is_in (numbers next) event) (option_visits expanded (slice_get expanded.model.formulas id.0)) ≡ true
    here = subst (λ ns. list_all (λ event. is_in ns event) (option_visits expanded (slice_get expanded.model.formulas id.0)) ≡ true) (sym (same ∙ done.ranks)) (all-ranked (numbers before) (option_visits expanded (slice_get expanded.model.formulas id.0)))

    by : (other : ℕ) (b : Bool) → nat_eq id.0 other ≡ b → contains nat_eq next.collected other ≡ cond b true (contains nat_eq now.collected other) → contains nat_eq next.collected other ≡ true → list_all (λ event. is_in (numbers next) event) (option_visits expanded (slice_get expanded.model.formulas other)) ≡ true
    by other true at_id is h = subst (λ v. list_all (λ event. is_in (numbers next) event) (option_visits expanded (slice_get expanded.model.formulas v)) ≡ true) (same-id id.0 other at_id) here
    by other false at_id is h = subst (λ ns. list_all (λ event. is_in ns event) (option_visits expanded (slice_get expanded.model.formulas other)) ≡ true) (sym same) (done.sound.collected other (sym is ∙ h))

    all : AllCollected expanded next
    all other h = by other (nat_eq id.0 other) refl (collected other) h

-- ---- targets

visits-collected : (expanded : Expanded) (found : Option Formula) (houses : List Bool) (rest : List Collected) → flat_map (λ one. visits (suc MAX_DEPTH) expanded one.formula) (collected_formula found houses rest) ≡ option_visits expanded found ++ flat_map (λ one. visits (suc MAX_DEPTH) expanded one.formula) rest
visits-collected expanded None houses rest = refl
visits-collected expanded (Some formula) houses rest = refl

-- the events of what a path collected are those of its steps
pub path-visits : (expanded : Expanded) (houses : List Bool) (path : List PathStep) → flat_map (λ one. visits (suc MAX_DEPTH) expanded one.formula) (collected expanded.model houses path) ≡ flat_map (step_visits expanded) path
path-visits expanded houses [] = refl
path-visits expanded houses (Collect id ∷ steps) =
    visits-collected expanded (slice_get expanded.model.formulas id.0) houses (collected expanded.model houses steps)
    ∙ ap (λ rest. option_visits expanded (slice_get expanded.model.formulas id.0) ++ rest) (path-visits expanded houses steps)
path-visits expanded houses (Set house state ∷ steps) = path-visits expanded _ steps

-- .. and those of a sequence those of its paths
pub paths-visits : (expanded : Expanded) (houses : List Bool) (paths : List (List PathStep)) → flat_map (λ path. flat_map (λ one. visits (suc MAX_DEPTH) expanded one.formula) (collected expanded.model houses path)) paths ≡ flat_map (λ path. flat_map (step_visits expanded) path) paths
paths-visits expanded houses [] = refl
paths-visits expanded houses (path ∷ paths) = append-same (path-visits expanded houses path) (paths-visits expanded houses paths)
  where
    append-same : {a b c d : List ℕ} → a ≡ b → c ≡ d → a ++ c ≡ b ++ d
    append-same p q = λ i. p i ++ q i

-- a gate that stands is within the levels of a target
pub gate-deep : (model : Model) (gate : GateId) → IsResolved model → gate.0 < length model.gates → within (suc MAX_DEPTH) model (variant.Gate gate) ≡ true
gate-deep model gate resolved stands =
    let found = at-place model.gates gate.0 stands in
    within-of-gate MAX_DEPTH model gate found.0 found.1 ∙ resolved.gates gate.0 found.0 found.1

-- the gate of a target stands
pub top-stands : (model : Model) (target : Target) (gate : GateId) → target ≡ TopEvent gate → target_stands model target ≡ true → gate.0 < length model.gates
top-stands model target gate is stands =
    let there = subst (λ (t : Target). target_stands model t ≡ true) is stands in grind (arith, nat_tests)

-- what was ranked for a target by its form
pub list-as : (expanded : Expanded) (target form : Target) (events : List ℕ) (before after : Ranking) → target ≡ form → events ≡ target_visits expanded form → RanksList expanded events before after → RanksList expanded (target_visits expanded target) before after
list-as expanded target form events before after is are done = subst (λ t. RanksList expanded t before after) (are ∙ ap (target_visits expanded) (sym is)) done

pub exceeds-list : (expanded : Expanded) (target form : Target) (events : List ℕ) (before : Ranking) → target ≡ form → events ≡ target_visits expanded form → Exceeds events before → Exceeds (target_visits expanded target) before
exceeds-list expanded target form events before is are many = subst (λ (t : List ℕ). MAX_EVENTS < length (ranked (numbers before) t)) (are ∙ ap (target_visits expanded) (sym is)) many

-- events by their numbers
events-of_numbers : (events : List EventNumber) → events ≡ map (λ number. record { 0 = number }) (map (λ event. event.0) events)
events-of_numbers [] = refl
events-of_numbers (event ∷ events) = ap (λ more. event ∷ more) (events-of_numbers events)

-- what a walk ranks from nothing are the ranks of the target
pub ranks-answer : (expanded : Expanded) (target : Target) (before after : Ranking) → numbers before ≡ [] → RanksList expanded (target_visits expanded target) before after → after.ranks ≡ ranks_of expanded target
ranks-answer expanded target before after none done =
    events-of_numbers after.ranks
    ∙ ap (map (λ number. record { 0 = number }))
    (done.ranks ∙ ap (λ ns. ranked ns (target_visits expanded target)) none ∙ ranked-from-none (target_visits expanded target))

-- .. and too many are too many
pub many-answer : (expanded : Expanded) (target : Target) (before : Ranking) → numbers before ≡ [] → Exceeds (target_visits expanded target) before → MAX_EVENTS < length (ranks_of expanded target)
many-answer expanded target before none many =
    let same : ranked (numbers before) (target_visits expanded target) ≡ ranked [] (target_visits expanded target) = ap (λ ns. ranked ns (target_visits expanded target)) none in
    let all : length (ranks_of expanded target) ≡ length (ranked (numbers before) (target_visits expanded target)) =
    length-map _ _ ∙ ap length (sym (same ∙ ranked-from-none (target_visits expanded target))) in
    omega arith

-- an event with a rank changes nothing
pub more-known : (event : ℕ) (before after : Ranking) → Agrees before → contains nat_eq before.seen event ≡ true → ((other : ℕ) → contains nat_eq after.seen other ≡ cond (nat_eq event other) true (contains nat_eq before.seen other)) → after.ranks ≡ before.ranks → after.entered ≡ before.entered → after.collected ≡ before.collected → RanksMore (event ∷ []) before after
more-known event before after agrees known seen ranks entered collected = record {
  agrees = record {
    seen = λ other. seen other ∙ by other (nat_eq event other) refl ∙ ap (λ rs. is_in (map (λ r. r.0) rs) other) (sym ranks);
    few = subst (λ (rs : List EventNumber). length rs ≤ MAX_EVENTS) (sym ranks) agrees.few;
  };
  ranks = ap (map (λ r. r.0)) ranks ∙ sym (ranked-known (numbers before) (event ∷ []) (both (is_in (numbers before) event) (sym (agrees.seen event) ∙ known)));
  entered = entered;
  collected = collected;
}
  where
    both : (b : Bool) → b ≡ true → (b && true) ≡ true
    both true e = refl
    both false e = absurd (cc)

    same-id : (a b : ℕ) → nat_eq a b ≡ true → a ≡ b
    same-id a b h = grind (arith, nat_tests)

    by : (other : ℕ) (b : Bool) → nat_eq event other ≡ b → cond b true (contains nat_eq before.seen other) ≡ is_in (numbers before) other
    by other true e = subst (λ (o : ℕ). true ≡ is_in (numbers before) o) (same-id event other e) (sym (sym (agrees.seen event) ∙ known))
    by other false e = agrees.seen other

-- a new event has the next rank
pub more-new : (event : ℕ) (before after : Ranking) → Agrees before → contains nat_eq before.seen event ≡ false → ((other : ℕ) → contains nat_eq after.seen other ≡ cond (nat_eq event other) true (contains nat_eq before.seen other)) → after.ranks ≡ before.ranks ++ (record { 0 = event } ∷ []) → length before.ranks < MAX_EVENTS → after.entered ≡ before.entered → after.collected ≡ before.collected → RanksMore (event ∷ []) before after
more-new event before after agrees new seen ranks few entered collected = record {
  agrees = record {
    seen = λ other. seen other ∙ by (nat_eq event other) (is_in (numbers before) other) (contains nat_eq before.seen other) (agrees.seen other) ∙ sym (ap (λ ns. is_in ns other) now ∙ is_in-push (numbers before) event other ∙ turn (is_in (numbers before) other) (eqb event other) (nat_eq event other) refl);
    few = let size : length after.ranks ≡ length before.ranks + 1 = ap length ranks ∙ length-append before.ranks (record { 0 = event } ∷ []) in omega arith;
  };
  ranks = now ∙ sym (ranked-new (numbers before) event (sym (agrees.seen event) ∙ new));
  entered = entered;
  collected = collected;
}
  where
    now : numbers after ≡ numbers before ++ (event ∷ [])
    now = ap (map (λ r. r.0)) ranks ∙ map-append (λ (r : EventNumber). r.0) before.ranks (record { 0 = event } ∷ [])

    by : (b p q : Bool) → q ≡ p → cond b true q ≡ (b || p)
    by true p q e = refl
    by false p q e = e

    flip : (p a : Bool) → (p || (a || false)) ≡ (a || p)
    flip true true = refl
    flip true false = refl
    flip false true = refl
    flip false false = refl

    turn : (p a b : Bool) → a ≡ b → (p || (a || false)) ≡ (b || p)
    turn p a b e = flip p a ∙ ap (λ c. c || p) e

-- a new event is one too many
pub many-new : (event : ℕ) (before : Ranking) → Agrees before → contains nat_eq before.seen event ≡ false → MAX_EVENTS ≤ length before.ranks → Exceeds (event ∷ []) before
many-new event before agrees new many =
    let now : ranked (numbers before) (event ∷ []) ≡ numbers before ++ (event ∷ []) = ranked-new (numbers before) event (sym (agrees.seen event) ∙ new) in
    let size : length (ranked (numbers before) (event ∷ [])) ≡ length before.ranks + 1 = ap length now ∙ length-append (numbers before) (event ∷ []) ∙ ap (λ n. n + 1) (length-map before.ranks (λ r. r.0)) in
    omega arith

-- nothing was walked yet
pub sound-empty : (expanded : Expanded) (ranking : Ranking) → ranking.ranks ≡ [] → IsEmpty ranking.seen → IsEmpty ranking.entered → IsEmpty ranking.collected → IsSound expanded ranking
sound-empty expanded ranking none seen entered collected = record {
  agrees = record {
    seen = λ event. nothing ranking.seen seen event ∙ sym (ap (λ rs. is_in (map (λ r. r.0) rs) event) none);
    few = let size : length ranking.ranks ≡ 0 = ap length none in omega arith;
  };
  entered = λ gate left n deep. let out : contains nat_eq ranking.entered gate ≡ false = nothing ranking.entered entered gate in absurd (cc);
  collected = λ formula left. let out : contains nat_eq ranking.collected formula ≡ false = nothing ranking.collected collected formula in absurd (cc);
}
  where
    nothing : {S : Type 0} (set : HashSet ℕ S) → IsEmpty set → (x : ℕ) → contains nat_eq set x ≡ false
    nothing set empty x = ap (list_any (nat_eq x)) empty
