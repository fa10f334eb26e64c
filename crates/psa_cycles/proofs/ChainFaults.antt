-- The first fault of chains in a draft, by what is found in its graph.
use Rattle.std.proofs.Common.{◌≡◌, ◌≤◌, ◌<◌, ◌+◌, ℕ, true, false, nat_le, not, List, [], ◌∷◌, length, get_or, map, Option, Some, None, Result, Err, ◌^◌, ◌&&◌, refl, sym, ap, ◌∙◌, subst, inl, inr, arith}
use Rattle.std.proofs.lemmas.Bool.{cases_Bool, cases_lt, le-leb, lt-leb, false≢true}
use Rattle.std.proofs.lemmas.List.{length-map, get_or_past}
use Rattle.std.proofs.lemmas.Option.{same_Some, none-some, slice_get_within, slice_get-get_or, get_or_from_slice_get, slice_get-map}
use Rattle.std.specs.Prelude.{slice_get}
use Rattle.std.specs.List.{enumerate_from}
use Rattle.std.specs.Option.{option_map}
use Rattle.psa_chains.specs.Answers.{IsAnswer}
use Rattle.psa_chains.specs.Chains.{AllStand, IsFirstCyclic, HasNoCycle}
use Rattle.psa_chains.specs.declared.chain.ChainFault.{ChainFault}
use Rattle.psa_chains.specs.declared.chain.ChainFault.TheVariants.{Cycle, TooDeep}
use Rattle.psa_chains.specs.declared.reference.Reference.{Reference}
use Rattle.psa_chains.proofs.Walks.{refers-within}
use Rattle.psa_chains.specs.Depths.{AreDepths, IsFirstDeeper, AreShallow}
use Rattle.psa_model.specs.Drafts.{IsDraft, has_body, position_of}
use Rattle.psa_model.specs.declared.draft.DefinitionKind.{DefinitionKind}
use Rattle.psa_model.specs.declared.draft.DefinitionKind.TheVariants as kind
use Rattle.psa_model.specs.declared.draft.Draft.{Draft}
use Rattle.psa_model.specs.declared.draft.DraftBody.{DraftBody}
use Rattle.psa_model.specs.declared.draft.DraftBody.TheVariants as body
use Rattle.psa_model.specs.declared.draft.DraftDefinition.{DraftDefinition}
use Rattle.psa_model.specs.declared.fault.FaultKind.TheVariants as fault
use Rattle.psa_model.specs.declared.fault.ModelFault.{ModelFault}
use Rattle.psa_model.specs.declared.model.TheConstants.{MAX_DEPTH}
use Rattle.psa_names.specs.Outlines.{Entry, entry_of, entries_of}
use Rattle.psa_names.specs.Meanings.{members_of}
use Rattle.psa_names.specs.Chains.{is_chained, leads, is_within_all}
use Rattle.psa_names.specs.PlacedFaults.{PlacedFault, fault_of, earliest}
use Rattle.psa_names.specs.NameFaults.{cycles, too_deep, or_next, name_fault}
use Rattle.psa_names.specs.Found.{HasNames}
use Rattle.psa_names.specs.declared.error.CheckError.{CheckError}
use Rattle.psa_names.specs.declared.error.CheckError.TheVariants.{Fault}
use Rattle.psa_cycles.specs.Graphs.{row_by, graph_by, nesting_by, nested_by}
use Rattle.psa_cycles.proofs.SameChains.{cyclic-leads, acyclic-leads, graph-stands}
use Rattle.psa_cycles.proofs.ElementDepths.{HasNoMembers, HaveHeights, depth-heights, depth-none, within-depth}
use Rattle.psa_cycles.proofs.FirstFaults.{InOrder, in-order, first-fails, none-fails, numbered-at, numbered-is, numbered-positions}

-- ---- what is promised of a draft

entry-at : (draft : Draft) (place : ℕ) (one : Entry) → slice_get (entries_of draft) place ≡ Some one → (d : DraftDefinition) × (slice_get draft.definitions place ≡ Some d) × (entry_of d ≡ one)
entry-at draft place one at = by_found (slice_get draft.definitions place) refl (sym (slice_get-map entry_of draft.definitions place) ∙ at)
  where
    by_found : (found : Option DraftDefinition) → slice_get draft.definitions place ≡ found → option_map entry_of found ≡ Some one → (d : DraftDefinition) × (slice_get draft.definitions place ≡ Some d) × (entry_of d ≡ one)
    by_found None is h = absurd (none-some one h)
    by_found (Some d) is h = (d, is, same_Some (entry_of d) one h)

-- a definition that chains lead through is no group
no-members : (k : DefinitionKind) (b : DraftBody) → has_body k b ≡ true → is_chained k ≡ true → members_of b ≡ []
no-members k (body.Group group) has chained = absurd (false≢true (sym (not-chained k has) ∙ chained))
  where
    not-chained : (k : DefinitionKind) → has_body k (body.Group group) ≡ true → is_chained k ≡ false
    not-chained kind.FaultTree h = refl
    not-chained kind.Gate h = absurd (false≢true h)
    not-chained kind.BasicEvent h = refl
    not-chained kind.HouseEvent h = refl
    not-chained kind.Parameter h = absurd (false≢true h)
    not-chained kind.Group h = refl
    not-chained kind.InitiatingEvent h = refl
    not-chained kind.EventTree h = absurd (false≢true h)
    not-chained kind.FunctionalEvent h = refl
    not-chained kind.Sequence h = absurd (false≢true h)
    not-chained kind.Branch h = absurd (false≢true h)
    not-chained kind.Rule h = absurd (false≢true h)
    not-chained kind.Component h = refl
no-members k body.Nothing has chained = refl
no-members k (body.Formula one) has chained = refl
no-members k (body.Value value) has chained = refl
no-members k (body.State state) has chained = refl
no-members k (body.Start tree) has chained = refl
no-members k (body.Steps instructions link) has chained = refl
no-members k (body.Walk one) has chained = refl

elements-alone : (draft : Draft) → IsDraft draft → (place : ℕ) (one : Entry) → slice_get (entries_of draft) place ≡ Some one → is_chained one.kind ≡ true → HasNoMembers one
elements-alone draft is place one at chained =
    let found = entry-at draft place one at in
    let inside = slice_get_within draft.definitions place found.0 found.1 in
    let has : has_body found.0.kind found.0.body ≡ true =
    subst (λ d. has_body d.kind d.body ≡ true) (get_or_from_slice_get draft.definitions place found.0 found.0 found.1) (is.bodies place found.0 inside) in
    subst HasNoMembers found.2
    (alone found.0 (no-members found.0.kind found.0.body has (subst (λ (e : Entry). is_chained e.kind ≡ true) (sym found.2) chained)))
  where
    alone : (d : DraftDefinition) → members_of d.body ≡ [] → HasNoMembers (entry_of d)
    alone d none = rw none refl

have-heights : (draft : Draft) (depths : List ℕ) → IsDraft draft → AreDepths (graph_by (entries_of draft)) (nested_by (entries_of draft)) depths → HaveHeights depths (entries_of draft)
have-heights draft depths is are place one at chained =
    depth-heights depths (entries_of draft) place one are at chained (elements-alone draft is place one at chained)

positions-same : (definitions : List DraftDefinition) → map (λ one. position_of one.definition) (map entry_of definitions) ≡ map position_of definitions
positions-same [] = refl
positions-same (d ∷ ds) = ap (λ ps. position_of d ∷ ps) (positions-same ds)

entries-in-order : (draft : Draft) → IsDraft draft → InOrder (map (λ one. position_of one.definition) (entries_of draft))
entries-in-order draft is = subst InOrder (sym (positions-same draft.definitions)) (in-order (map position_of draft.definitions) is.ascending)

-- ---- cycles

-- without a cycle in the graph the check of cycles has no fault
pub no-cycle : (draft : Draft) → HasNoCycle (graph_by (entries_of draft)) → earliest (cycles (entries_of draft)) ≡ None
no-cycle draft acyclic =
    none-fails (λ (x : ℕ × Entry). fault_of fault.Cycle x.1) (λ x. leads (length (entries_of draft)) (entries_of draft) x.0 x.0) (enumerate_from 0 (entries_of draft))
    (λ j x there. acyclic-leads (entries_of draft) x.0 (acyclic x.0))

-- its fault is that of the first place on a cycle
pub first-cycle : (draft : Draft) → IsDraft draft → (place : ℕ) (one : Entry) → slice_get (entries_of draft) place ≡ Some one → IsFirstCyclic (graph_by (entries_of draft)) place → earliest (cycles (entries_of draft)) ≡ Some (fault_of fault.Cycle one)
first-cycle draft is place one at cyclic =
    first-fails (λ (x : ℕ × Entry). fault_of fault.Cycle x.1) (λ x. leads (length (entries_of draft)) (entries_of draft) x.0 x.0) (enumerate_from 0 (entries_of draft))
    (subst InOrder (sym (numbered-positions 0 (entries_of draft))) (entries-in-order draft is))
    place (0 + place, one) (numbered-at 0 (entries_of draft) place one at)
    (leads-same (0 + place) zero-sum)
    (λ j x low there. let number = numbered-is 0 (entries_of draft) j x there in acyclic-leads (entries_of draft) x.0 (cyclic.first x.0 (omega (arith, number.0))))
  where
    zero-sum : place ≡ 0 + place
    zero-sum = omega arith

    leads-same : (n : ℕ) → place ≡ n → leads (length (entries_of draft)) (entries_of draft) n n ≡ true
    leads-same n same = subst (λ k. leads (length (entries_of draft)) (entries_of draft) k k ≡ true) same (cyclic-leads (entries_of draft) place cyclic.cyclic)

-- ---- depths

deeper-is : (draft : Draft) (depths : List ℕ) → IsDraft draft → AreDepths (graph_by (entries_of draft)) (nested_by (entries_of draft)) depths → (place : ℕ) (one : Entry) → slice_get (entries_of draft) place ≡ Some one → (is_chained one.kind && not (is_within_all MAX_DEPTH (entries_of draft) one)) ≡ not (nat_le (get_or depths place 0) MAX_DEPTH)
deeper-is draft depths is are place one at =
    elim (cases_Bool (is_chained one.kind)) [
      | inl chained ↦ rw chained (ap not (within-depth depths (entries_of draft) (have-heights draft depths is are) MAX_DEPTH place one at chained))
      | inr other ↦ rw other (sym (ap (λ d. not (nat_le d MAX_DEPTH)) (depth-none depths (entries_of draft) place one are at other)))
    ]

above : (d : ℕ) → MAX_DEPTH < d → not (nat_le d MAX_DEPTH) ≡ true
above d deep = ap not (lt-leb d MAX_DEPTH deep)

within : (d : ℕ) → d ≤ MAX_DEPTH → not (nat_le d MAX_DEPTH) ≡ false
within d low = ap not (le-leb d MAX_DEPTH low)

-- where all depths are within the limit the check of depths has no fault
pub none-deeper : (draft : Draft) → IsDraft draft → AreShallow MAX_DEPTH (graph_by (entries_of draft)) (nested_by (entries_of draft)) → earliest (too_deep (entries_of draft)) ≡ None
none-deeper draft is shallow =
    none-fails (fault_of fault.TooDeep) (λ one. is_chained one.kind && not (is_within_all MAX_DEPTH (entries_of draft) one)) (entries_of draft)
    (λ j one there. deeper-is draft shallow.depths is shallow.are j one there ∙ within (get_or shallow.depths j 0) (shallow.each j))

-- its fault is that of the first place that is deeper
pub first-deeper : (draft : Draft) → IsDraft draft → (place : ℕ) (one : Entry) → slice_get (entries_of draft) place ≡ Some one → IsFirstDeeper MAX_DEPTH (graph_by (entries_of draft)) (nested_by (entries_of draft)) place → earliest (too_deep (entries_of draft)) ≡ Some (fault_of fault.TooDeep one)
first-deeper draft is place one at deeper =
    first-fails (fault_of fault.TooDeep) (λ one. is_chained one.kind && not (is_within_all MAX_DEPTH (entries_of draft) one)) (entries_of draft)
    (entries-in-order draft is) place one at
    (deeper-is draft deeper.depths is deeper.are place one at ∙ above (get_or deeper.depths place 0) deeper.deeper)
    (λ j other low there. deeper-is draft deeper.depths is deeper.are j other there ∙ within (get_or deeper.depths j 0) (deeper.first j low))

-- ---- the first fault of names, where the first three checks have none

names-fault : (draft : Draft) (cyclic deep : Option PlacedFault) → HasNames draft → earliest (cycles (entries_of draft)) ≡ cyclic → earliest (too_deep (entries_of draft)) ≡ deep → name_fault draft ≡ option_map (λ (one : PlacedFault). one.fault) (or_next cyclic (λ u. deep))
names-fault draft cyclic deep names p q = rw (names.no_duplicate, names.no_bad_reference, names.no_bad_group, p, q) refl

-- no fault of names
pub no-fault : (draft : Draft) → IsDraft draft → HasNames draft → HasNoCycle (graph_by (entries_of draft)) × AreShallow MAX_DEPTH (graph_by (entries_of draft)) (nested_by (entries_of draft)) → name_fault draft ≡ None
no-fault draft is names both = names-fault draft None None names (no-cycle draft both.0) (none-deeper draft is both.1)

-- the first fault of names is a cycle
pub cycle-fault : (draft : Draft) → IsDraft draft → HasNames draft → (place : ℕ) (d : DraftDefinition) → slice_get draft.definitions place ≡ Some d → IsFirstCyclic (graph_by (entries_of draft)) place → name_fault draft ≡ Some (fault_of fault.Cycle (entry_of d)).fault
cycle-fault draft is names place d at cyclic =
    names-fault draft (Some (fault_of fault.Cycle (entry_of d))) (earliest (too_deep (entries_of draft))) names
    (first-cycle draft is place (entry_of d) (slice_get-map entry_of draft.definitions place ∙ ap (option_map entry_of) at) cyclic) refl

-- the first fault of names is a depth
pub deep-fault : (draft : Draft) → IsDraft draft → HasNames draft → (place : ℕ) (d : DraftDefinition) → slice_get draft.definitions place ≡ Some d → HasNoCycle (graph_by (entries_of draft)) × IsFirstDeeper MAX_DEPTH (graph_by (entries_of draft)) (nested_by (entries_of draft)) place → name_fault draft ≡ Some (fault_of fault.TooDeep (entry_of d)).fault
deep-fault draft is names place d at both =
    names-fault draft None (Some (fault_of fault.TooDeep (entry_of d))) names (no-cycle draft both.0)
    (first-deeper draft is place (entry_of d) (slice_get-map entry_of draft.definitions place ∙ ap (option_map entry_of) at) both.1)

-- ---- by what is said of the graph

-- the graph is that of a draft, with the limit of depth
pub record IsGraph (draft : Draft) (limit : ℕ) (rows : List (List Reference)) (nested : List ℕ) : Type 0 where
  pub limit_is : limit ≡ MAX_DEPTH
  pub rows_are : rows ≡ graph_by (entries_of draft)
  pub nested_are : nested ≡ nested_by (entries_of draft)

said : (draft : Draft) (limit : ℕ) (rows : List (List Reference)) (nested : List ℕ) (answer its : Option ChainFault) → IsGraph draft limit rows nested → answer ≡ its → IsAnswer limit rows nested answer → IsAnswer MAX_DEPTH (graph_by (entries_of draft)) (nested_by (entries_of draft)) its
said draft limit rows nested answer its graph is h =
    subst (λ x. IsAnswer MAX_DEPTH (graph_by (entries_of draft)) (nested_by (entries_of draft)) x) is
    (subst (λ ns. IsAnswer MAX_DEPTH (graph_by (entries_of draft)) ns answer) graph.nested_are
    (subst (λ rs. IsAnswer MAX_DEPTH rs nested answer) graph.rows_are (subst (λ n. IsAnswer n rows nested answer) graph.limit_is h)))

-- each reference of the graph leads to a definition
pub stands : (draft : Draft) (rows : List (List Reference)) → rows ≡ graph_by (entries_of draft) → AllStand rows
stands draft rows is = subst AllStand (sym is) (graph-stands (entries_of draft))

-- places of the graph are numbers of 32 bits
pub few : (draft : Draft) (rows : List (List Reference)) → IsDraft draft → rows ≡ graph_by (entries_of draft) → length rows < 2 ^ 32
few draft rows is same =
    let size : length rows ≡ length draft.definitions = ap length same ∙ length-map (entries_of draft) (row_by (entries_of draft)) ∙ length-map draft.definitions entry_of in
    let all = is.few in
    omega arith

-- each definition has its nesting
pub as-many : (draft : Draft) (rows : List (List Reference)) (nested : List ℕ) → rows ≡ graph_by (entries_of draft) → nested ≡ nested_by (entries_of draft) → length nested ≡ length rows
as-many draft rows nested p q =
    ap length q ∙ length-map (entries_of draft) nesting_by ∙ sym (ap length p ∙ length-map (entries_of draft) (row_by (entries_of draft)))

-- the place of a cycle is that of a definition
pub cycle-place : (draft : Draft) (limit : ℕ) (rows : List (List Reference)) (nested : List ℕ) (answer : Option ChainFault) (place : ℕ) → IsGraph draft limit rows nested → answer ≡ Some (Cycle place) → IsAnswer limit rows nested answer → place < length draft.definitions
cycle-place draft limit rows nested answer place graph is h =
    let cyclic = said draft limit rows nested answer (Some (Cycle place)) graph is h in
    let inside = refers-within (graph_by (entries_of draft)) place cyclic.cyclic.next cyclic.cyclic.refers in
    omega (arith, length-map (entries_of draft) (row_by (entries_of draft)), length-map draft.definitions entry_of)

-- so is the place of one that is too deep
pub deep-place : (draft : Draft) (limit : ℕ) (rows : List (List Reference)) (nested : List ℕ) (answer : Option ChainFault) (place : ℕ) → IsGraph draft limit rows nested → answer ≡ Some (TooDeep place) → IsAnswer limit rows nested answer → place < length draft.definitions
deep-place draft limit rows nested answer place graph is h =
    let deeper = (said draft limit rows nested answer (Some (TooDeep place)) graph is h).1 in
    elim (cases_lt place (length draft.definitions)) [
      | inl inside ↦ inside
      | inr past ↦ (let none = get_or_past deeper.depths place 0 (omega (arith, deeper.are.all, length-map (entries_of draft) (row_by (entries_of draft)), length-map draft.definitions entry_of)) in
          absurd (omega (arith, deeper.deeper)))
    ]

-- the answer that nothing is wrong
pub answered-none : (draft : Draft) (limit : ℕ) (rows : List (List Reference)) (nested : List ℕ) (answer : Option ChainFault) → IsDraft draft → HasNames draft → IsGraph draft limit rows nested → answer ≡ None → IsAnswer limit rows nested answer → name_fault draft ≡ None
answered-none draft limit rows nested answer is names graph none h = no-fault draft is names (said draft limit rows nested answer None graph none h)

definition-at : (draft : Draft) (slice : List DraftDefinition) (place : ℕ) (d : DraftDefinition) → slice ≡ draft.definitions → place < length draft.definitions → d ≡ get_or slice place d → slice_get draft.definitions place ≡ Some d
definition-at draft slice place d same inside is =
    slice_get-get_or draft.definitions place d inside ∙ ap Some (sym (is ∙ ap (λ ds. get_or ds place d) same))

fault-same : (found other : ModelFault) → ◌≡◌ {A = Result (Unit {0}) CheckError} (Err (Fault found)) (Err (Fault other)) → found ≡ other
fault-same found other h = cc

-- the answer of a cycle
pub answered-cycle : (draft : Draft) (limit : ℕ) (rows : List (List Reference)) (nested : List ℕ) (answer : Option ChainFault) (place : ℕ) (slice : List DraftDefinition) (d : DraftDefinition) (found : ModelFault) → IsDraft draft → HasNames draft → IsGraph draft limit rows nested → answer ≡ Some (Cycle place) → IsAnswer limit rows nested answer → slice ≡ draft.definitions → d ≡ get_or slice place d → found ≡ (fault_of fault.Cycle (entry_of d)).fault → (other : ModelFault) → ◌≡◌ {A = Result (Unit {0}) CheckError} (Err (Fault found)) (Err (Fault other)) → name_fault draft ≡ Some other
answered-cycle draft limit rows nested answer place slice d found is names graph at h same read made other err =
    cycle-fault draft is names place d (definition-at draft slice place d same (cycle-place draft limit rows nested answer place graph at h) read) (said draft limit rows nested answer (Some (Cycle place)) graph at h)
    ∙ ap Some (sym made ∙ fault-same found other err)

-- the answer of a depth
pub answered-deep : (draft : Draft) (limit : ℕ) (rows : List (List Reference)) (nested : List ℕ) (answer : Option ChainFault) (place : ℕ) (slice : List DraftDefinition) (d : DraftDefinition) (found : ModelFault) → IsDraft draft → HasNames draft → IsGraph draft limit rows nested → answer ≡ Some (TooDeep place) → IsAnswer limit rows nested answer → slice ≡ draft.definitions → d ≡ get_or slice place d → found ≡ (fault_of fault.TooDeep (entry_of d)).fault → (other : ModelFault) → ◌≡◌ {A = Result (Unit {0}) CheckError} (Err (Fault found)) (Err (Fault other)) → name_fault draft ≡ Some other
answered-deep draft limit rows nested answer place slice d found is names graph at h same read made other err =
    deep-fault draft is names place d (definition-at draft slice place d same (deep-place draft limit rows nested answer place graph at h) read) (said draft limit rows nested answer (Some (TooDeep place)) graph at h)
    ∙ ap Some (sym made ∙ fault-same found other err)
