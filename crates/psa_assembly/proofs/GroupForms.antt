-- Common cause groups, from the readings of what stands in them.
use Rattle.std.proofs.Common.{◌≡◌, ◌<◌, ◌≤◌, ◌+◌, ℕ, List, [], ◌∷◌, ◌++◌, Option, Some, None, map, length, take, drop, get_or, refl, ap, sym, ◌∙◌, subst, inl, inr, if◌then◌else◌}
use Rattle.std.proofs.lemmas.Bool.{cases_Bool}
use Rattle.std.proofs.lemmas.List.{append-nil, append_assoc, map-append, take_more, take_all}
use Rattle.std.proofs.lemmas.List.Concat.{flat_map-append}
use Rattle.std.specs.Prelude.{filter_map}
use Rattle.std.specs.List.{flat_map, cons_option}
use Rattle.std.specs.Option.{option_map, option_to_list, unwrap_or}
use Rattle.psa_model.specs.PathNames.{Text, is_path}
use Rattle.psa_model.specs.declared.ids.EventId.{EventId}
use Rattle.psa_model.specs.declared.ids.Place.{Place}
use Rattle.psa_model.specs.declared.expression.Expression.{Expression}
use Rattle.psa_model.specs.declared.model.Factor.{Factor}
use Rattle.psa_model.specs.declared.model.Group.{Group}
use Rattle.psa_model.specs.declared.model.GroupModel.{GroupModel}
use Rattle.psa_model.specs.declared.draft.Draft.{Draft}
use Rattle.psa_model.specs.declared.draft.DraftDefinition.{DraftDefinition}
use Rattle.psa_model.specs.declared.draft.DraftFactor.{DraftFactor}
use Rattle.psa_model.specs.declared.draft.DraftGroup.{DraftGroup}
use Rattle.psa_model.specs.declared.draft.DraftReference.{DraftReference}
use Rattle.psa_model.specs.declared.draft.DefinitionKind.TheVariants as kind
use Rattle.psa_model.specs.declared.draft.DraftBody.TheVariants as body
use Rattle.psa_model.specs.declared.draft.EventKind.TheVariants as asked
use Rattle.psa_names.specs.declared.found.Sense.{Sense}
use Rattle.psa_names.specs.Outlines.{Entry, Entries, entry_of, entries_of, event, expression_outline}
use Rattle.psa_names.specs.Chains.{references_in}
use Rattle.psa_names.specs.Found.{meaning_of_sense}
use Rattle.psa_names.specs.Ids.{basic_id}
use Rattle.psa_names.specs.Resolved.{resolved_expression}
use Rattle.psa_names.specs.ModelOfDraft.{by_level, factor_of, group_of, member_ids}
use Rattle.psa_bodies.specs.declared.numbers.Numbers.{Numbers}
use Rattle.psa_assembly.specs.Groups.{factor_references, ids_of, path_references, with_factor}
use Rattle.psa_bodies.specs.Made.{IsMade}
use Rattle.psa_bodies.specs.Numbering.{AreNumbers}
use Rattle.psa_bodies.specs.Reading.{Reads}
use Rattle.psa_bodies.proofs.CountedMembers.{IsNext, next-taken}
use Rattle.psa_assembly.proofs.FactorLevels.{one-more-level}
use Rattle.psa_bodies.proofs.MadeDefinitions.{made-by, references-said}
use Rattle.psa_bodies.proofs.ReadingInOrder.{reads-as, reads-none, reads-then, flat_map-map}

-- ---- members that are paths

path-references : (members : List DraftReference) → filter_map (λ member. if is_path member.name then Some (record { kind = event asked.Basic; written = member }) else None) members ≡ flat_map path_references members
path-references [] = refl
path-references (m ∷ ms) =
    elim (cases_Bool (is_path m.name)) [
      | inl is ↦ rw is (ap (λ rs. record { kind = event asked.Basic; written = m } ∷ rs) (path-references ms))
      | inr isnt ↦ rw isnt (path-references ms)
    ]

pub paths-more : (numbers : Numbers) (senses between left : List Sense) (xs : List DraftReference) (i : ℕ) (x : DraftReference) → i < length xs → x ≡ get_or xs i x → Reads {A = ℕ} numbers senses between (flat_map path_references (take i xs)) (λ entries from. 0) 0 → Reads {A = ℕ} numbers between left (path_references x) (λ entries from. 0) 0 → Reads {A = ℕ} numbers senses left (flat_map path_references (take (i + 1) xs)) (λ entries from. 0) 0
paths-more numbers senses between left xs i x inside is first next =
    let longer : take (i + 1) xs ≡ take i xs ++ x ∷ [] = take_more xs i x inside ∙ ap (λ y. take i xs ++ y ∷ []) (sym is) in
    reads-as numbers senses left (flat_map path_references (take i xs) ++ path_references x) (flat_map path_references (take (i + 1) xs)) (λ entries from. 0) (λ entries from. 0) 0
    (ap (λ rs. flat_map path_references (take i xs) ++ rs) (sym (append-nil (path_references x))) ∙ sym (flat_map-append path_references (take i xs) (x ∷ [])) ∙ ap (flat_map path_references) (sym longer))
    (λ entries from. refl)
    (reads-then numbers senses between left (flat_map path_references (take i xs)) (path_references x) (λ entries from. 0) (λ entries from. 0) 0 0 (λ (a b : ℕ). 0) first next)

pub paths-all : (numbers : Numbers) (senses left : List Sense) (xs : List DraftReference) (i : ℕ) → length xs ≤ i → Reads {A = ℕ} numbers senses left (flat_map path_references (take i xs)) (λ entries from. 0) 0 → Reads {A = ℕ} numbers senses left (flat_map path_references xs) (λ entries from. 0) 0
paths-all numbers senses left xs i past read = subst (λ ys. Reads {A = ℕ} numbers senses left (flat_map path_references ys) (λ entries from. 0) 0) (take_all i xs past) read

-- ---- members

filter_map-append : {A B : Type 0} (f : A → Option B) (xs ys : List A) → filter_map f (xs ++ ys) ≡ filter_map f xs ++ filter_map f ys
filter_map-append f [] ys = refl
filter_map-append {A} {B} f (x ∷ xs) ys = by (f x) (filter_map-append f xs ys)
  where
    by : (o : Option B) → filter_map f (xs ++ ys) ≡ filter_map f xs ++ filter_map f ys → cons_option o (filter_map f (xs ++ ys)) ≡ cons_option o (filter_map f xs) ++ filter_map f ys
    by None rest = rest
    by (Some y) rest = ap (λ zs. y ∷ zs) rest

pub ids-append : (entries : Entries) (xs ys : List Sense) → ids_of entries (xs ++ ys) ≡ ids_of entries xs ++ ids_of entries ys
ids-append entries xs ys =
    ap (map (λ id. record { 0 = id })) (filter_map-append (λ sense. option_map (basic_id entries) (meaning_of_sense entries sense)) xs ys)
    ∙ map-append (λ id. record { 0 = id }) (filter_map (λ sense. option_map (basic_id entries) (meaning_of_sense entries sense)) xs) (filter_map (λ sense. option_map (basic_id entries) (meaning_of_sense entries sense)) ys)

-- one more member
pub ids-more : (entries : Entries) (senses : List Sense) (k : ℕ) (next : Option Sense) (left : List Sense) (made more : List EventId) → IsNext (drop k senses) next left → made ≡ ids_of entries (take k senses) → more ≡ made ++ ids_of entries (option_to_list next) → more ≡ ids_of entries (take (k + 1) senses)
ids-more entries senses k next left made more is before pushed =
    pushed ∙ ap (λ ids. ids ++ ids_of entries (option_to_list next)) before
    ∙ sym (ids-append entries (take k senses) (option_to_list next)) ∙ ap (ids_of entries) (sym (next-taken senses k next left is).0)

-- what is kept of the first members
pub record FirstIds (numbers : Numbers) (senses : List Sense) (k : ℕ) (made : List EventId) (left : List Sense) : Type 0 where
  pub ids : (entries : Entries) → AreNumbers entries numbers → made ≡ ids_of entries (take k senses)
  pub rest : left ≡ drop k senses

pub first-more : (numbers : Numbers) (senses : List Sense) (k : ℕ) (next : Option Sense) (made more : List EventId) (left rest : List Sense) → FirstIds numbers senses k made left → IsNext left next rest → ((entries : Entries) → AreNumbers entries numbers → more ≡ made ++ ids_of entries (option_to_list next)) → FirstIds numbers senses (k + 1) more rest
first-more numbers senses k next made more left rest first is pushed =
    let here = subst (λ l. IsNext l next rest) first.rest is in
    record {
      ids = λ entries are. ids-more entries senses k next rest made more here (first.ids entries are) (pushed entries are);
      rest = (next-taken senses k next rest here).1;
    }

-- ---- factors

abbrev pub FactorsRead : Numbers → List Sense → List Sense → ℕ → List DraftFactor → List Factor → Type 0
FactorsRead numbers senses left members factors made =
    Reads numbers senses left (flat_map factor_references factors) (λ entries from. by_level (map (factor_of entries from members) factors)) made

abbrev factor_with : ℕ → Expression → Factor
factor_with level expression = record { level = level; expression = expression }

pub factors-none : (numbers : Numbers) (senses : List Sense) (members : ℕ) (made : List Factor) → made ≡ [] → FactorsRead numbers senses senses members [] made
factors-none numbers senses members made is = reads-none numbers senses (λ entries from. by_level (map (factor_of entries from members) [])) made (λ entries from. is)

pub factors-more : (numbers : Numbers) (senses between left : List Sense) (members : ℕ) (xs : List DraftFactor) (i : ℕ) (x : DraftFactor) (made more : List Factor) (level : ℕ) (expression : Expression) → i < length xs → x ≡ get_or xs i x → FactorsRead numbers senses between members (take i xs) made → level ≡ unwrap_or x.level members → Reads numbers between left (references_in (expression_outline x.expression)) (λ entries from. resolved_expression entries from x.expression) expression → more ≡ with_factor made (factor_with level expression) → FactorsRead numbers senses left members (take (i + 1) xs) more
factors-more numbers senses between left members xs i x made more level expression inside is first same next placed =
    let longer : take (i + 1) xs ≡ take i xs ++ x ∷ [] = take_more xs i x inside ∙ ap (λ y. take i xs ++ y ∷ []) (sym is) in
    subst (λ ys. FactorsRead numbers senses left members (take (i + 1) xs) ys) (sym placed)
    (reads-as numbers senses left (flat_map factor_references (take i xs) ++ factor_references x) (flat_map factor_references (take (i + 1) xs)) (λ entries from. with_factor (by_level (map (factor_of entries from members) (take i xs))) (factor_with level (resolved_expression entries from x.expression))) (λ entries from. by_level (map (factor_of entries from members) (take (i + 1) xs))) (with_factor made (factor_with level expression))
    (ap (λ rs. flat_map factor_references (take i xs) ++ rs) (sym (append-nil (factor_references x))) ∙ sym (flat_map-append factor_references (take i xs) (x ∷ [])) ∙ ap (flat_map factor_references) (sym longer))
    (λ entries from.
    ap (λ l. with_factor (by_level (map (factor_of entries from members) (take i xs))) (factor_with l (resolved_expression entries from x.expression))) same
    ∙ sym (one-more-level (map (factor_of entries from members) (take i xs)) (factor_of entries from members x))
    ∙ ap by_level (sym (map-append (factor_of entries from members) (take i xs) (x ∷ [])) ∙ ap (map (factor_of entries from members)) (sym longer)))
    (reads-then numbers senses between left (flat_map factor_references (take i xs)) (factor_references x) (λ entries from. by_level (map (factor_of entries from members) (take i xs))) (λ entries from. resolved_expression entries from x.expression) made expression (λ fs e. with_factor fs (factor_with level e)) first next))

pub factors-all : (numbers : Numbers) (senses left : List Sense) (members : ℕ) (xs : List DraftFactor) (i : ℕ) (made : List Factor) → length xs ≤ i → FactorsRead numbers senses left members (take i xs) made → FactorsRead numbers senses left members xs made
factors-all numbers senses left members xs i made past read = subst (λ ys. FactorsRead numbers senses left members ys made) (take_all i xs past) read

-- ---- groups

abbrev pub group_with : Place → Text → GroupModel → List EventId → Expression → List Factor → Group
group_with place name model members distribution factors =
    record { name = name; place = place; model = model; members = members; distribution = distribution; factors = factors }

group-said : (entries : Entries) (one : Entry) (group : DraftGroup) → one.body ≡ body.Group group → group_with one.place one.name group.model (map (λ id. record { 0 = id }) (member_ids entries one)) (resolved_expression entries one group.distribution) (by_level (map (factor_of entries one (length group.members)) group.factors)) ≡ group_of entries one
group-said entries one group says = rw says refl

pub group-made : (numbers : Numbers) (draft : Draft) (definition : DraftDefinition) (senses first second left : List Sense) (group : DraftGroup) (paths : List DraftReference) (items : List DraftFactor) (members : List EventId) (name : Text) (count : ℕ) (distribution : Expression) (factors : List Factor) → AreNumbers (entries_of draft) numbers → definition.kind ≡ kind.Group → definition.body ≡ body.Group group → paths ≡ group.members → items ≡ group.factors → name ≡ definition.name → count ≡ length group.members → members ≡ map (λ id. record { 0 = id }) (member_ids (entries_of draft) (entry_of definition)) → Reads {A = ℕ} numbers senses first (flat_map path_references paths) (λ entries from. 0) 0 → Reads numbers first second (references_in (expression_outline group.distribution)) (λ entries from. resolved_expression entries from group.distribution) distribution → FactorsRead numbers second left count items factors → IsMade draft definition senses left (λ entries from. group_of entries from) (group_with definition.place name group.model members distribution factors)
group-made numbers draft definition senses first second left group paths items members name count distribution factors are is says same equal named counted ids skipped one all =
    made-by numbers draft definition senses left ((flat_map path_references paths ++ references_in (expression_outline group.distribution)) ++ flat_map factor_references items) (λ entries from. group_with definition.place name group.model members (resolved_expression entries from group.distribution) (by_level (map (factor_of entries from count) items))) (λ entries from. group_of entries from) (group_with definition.place name group.model members distribution factors) are
    (reads-then numbers senses second left (flat_map path_references paths ++ references_in (expression_outline group.distribution)) (flat_map factor_references items) (λ entries from. resolved_expression entries from group.distribution) (λ entries from. by_level (map (factor_of entries from count) items)) distribution factors (group_with definition.place name group.model members)
    (reads-then numbers senses first second (flat_map path_references paths) (references_in (expression_outline group.distribution)) (λ entries from. 0) (λ entries from. resolved_expression entries from group.distribution) 0 distribution (λ (n : ℕ) e. e) skipped one) all)
    (append_assoc (flat_map path_references paths) (references_in (expression_outline group.distribution)) (flat_map factor_references items)
    ∙ ap (λ ps. flat_map path_references ps ++ (references_in (expression_outline group.distribution) ++ flat_map factor_references items)) same
    ∙ ap (λ fs. flat_map path_references group.members ++ (references_in (expression_outline group.distribution) ++ flat_map factor_references fs)) equal
    ∙ ap (λ rs. rs ++ (references_in (expression_outline group.distribution) ++ flat_map factor_references group.factors)) (sym (path-references group.members))
    ∙ ap (λ rs. filter_map (λ member. if is_path member.name then Some (record { kind = event asked.Basic; written = member }) else None) group.members ++ (references_in (expression_outline group.distribution) ++ rs)) (sym (flat_map-map references_in (λ (f : DraftFactor). expression_outline f.expression) group.factors))
    ∙ references-said definition kind.Group (body.Group group) is says)
    (ap (λ n. group_with definition.place n group.model members (resolved_expression (entries_of draft) (entry_of definition) group.distribution) (by_level (map (factor_of (entries_of draft) (entry_of definition) count) items))) named
    ∙ ap (λ ms. group_with definition.place definition.name group.model ms (resolved_expression (entries_of draft) (entry_of definition) group.distribution) (by_level (map (factor_of (entries_of draft) (entry_of definition) count) items))) ids
    ∙ ap (λ n. group_with definition.place definition.name group.model (map (λ id. record { 0 = id }) (member_ids (entries_of draft) (entry_of definition))) (resolved_expression (entries_of draft) (entry_of definition) group.distribution) (by_level (map (factor_of (entries_of draft) (entry_of definition) n) items))) counted
    ∙ ap (λ fs. group_with definition.place definition.name group.model (map (λ id. record { 0 = id }) (member_ids (entries_of draft) (entry_of definition))) (resolved_expression (entries_of draft) (entry_of definition) group.distribution) (by_level (map (factor_of (entries_of draft) (entry_of definition) (length group.members)) fs))) equal
    ∙ group-said (entries_of draft) (entry_of definition) group says)
