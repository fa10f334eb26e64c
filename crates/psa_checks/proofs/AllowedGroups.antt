-- The conditions of a group of a draft without a fault.
use Rattle.std.proofs.Common.{◌≡◌, ◌≤◌, ℕ, Bool, true, false, not, List, length, ◌&&◌, ap}
use Rattle.std.proofs.lemmas.Bool.{and_parts, not-true, leb-true}
use Rattle.std.specs.Prelude.{nat_le, take}
use Rattle.std.specs.List.{list_all, list_any}
use Rattle.psa_model.specs.declared.draft.DefinitionKind.{DefinitionKind}
use Rattle.psa_model.specs.declared.draft.DefinitionKind.TheVariants as kind
use Rattle.psa_model.specs.declared.limits.TheConstants.{MIN_MEMBERS, MAX_MEMBERS}
use Rattle.psa_names.specs.Outlines.{Entry, Entries}
use Rattle.psa_names.specs.NameSpaces.{same_family, family_of, groups}
use Rattle.psa_names.specs.GroupRules.{meanings_of_members, has_repeat, can_be_member, have_one_in_common, body_has_levels, is_allowed_group}
use Rattle.psa_checks.proofs.Definitions.{IsEntry}

-- ---- what an allowed group is

-- the conditions of a group that may stand behind these definitions
pub record IsAllowed (entries : Entries) (before : List Entry) (group : Entry) : Type 0 where
  pub least : MIN_MEMBERS ≤ length (meanings_of_members entries group)
  pub most : length (meanings_of_members entries group) ≤ MAX_MEMBERS
  pub no_repeat : has_repeat (meanings_of_members entries group) ≡ false
  pub can_be : list_all (can_be_member entries) (meanings_of_members entries group) ≡ true
  pub apart : list_any (λ other. have_one_in_common (meanings_of_members entries group)
      (meanings_of_members entries other)) before ≡ false
  pub levels : body_has_levels group.body ≡ true

six-parts : (a b c d e f : Bool) → (a && b && c && d && e && f) ≡ true
    → (a ≡ true) × (b ≡ true) × (c ≡ true) × (d ≡ true) × (e ≡ true) × (f ≡ true)
six-parts a b c d e f h =
    let p = and_parts (a && b && c && d && e) f h in
    let q = and_parts (a && b && c && d) e p.0 in
    let r = and_parts (a && b && c) d q.0 in
    let s = and_parts (a && b) c r.0 in
    let t = and_parts a b s.0 in
    (t.0, t.1, s.1, r.1, q.1, p.1)

-- an allowed group has each condition
pub allowed-parts : (entries : Entries) (before : List Entry) (group : Entry)
    → is_allowed_group entries before group ≡ true → IsAllowed entries before group
allowed-parts entries before group h =
    let members = meanings_of_members entries group in
    let p = six-parts (nat_le MIN_MEMBERS (length members)) (nat_le (length members) MAX_MEMBERS)
    (not (has_repeat members)) (list_all (can_be_member entries) members)
    (not (list_any (λ other. have_one_in_common members (meanings_of_members entries other)) before))
    (body_has_levels group.body) h in
    record {
      least = leb-true MIN_MEMBERS (length members) p.0;
      most = leb-true (length members) MAX_MEMBERS p.1;
      no_repeat = not-true (has_repeat members) p.2;
      can_be = p.3;
      apart = not-true _ p.4;
      levels = p.5;
    }

-- a group of a draft without a fault has each condition
pub group-allowed : (entries : Entries) (place : ℕ) (one : Entry) → IsEntry entries place one → one.kind ≡ kind.Group
    → IsAllowed entries (take place entries) one
group-allowed entries place one is kind_is =
    allowed-parts entries (take place entries) one
    (is.allowed (ap (λ (k : DefinitionKind). same_family (family_of k) groups) kind_is))
