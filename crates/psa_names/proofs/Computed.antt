-- The faults of the worked drafts, by computation on their entries.
use Rattle.std.proofs.Common.{◌≡◌, ap, ◌∙◌, Some, None, refl}
use Rattle.std.specs.Prelude.{codes}
use Rattle.psa_model.specs.declared.fault.FaultKind.TheVariants.{Duplicate, Undefined, WrongKind, BadGroup, Cycle}
use Rattle.psa_model.specs.ExampleDrafts.{one_gate_draft, gate_draft, repeated_draft, house_draft, short_group_draft, group_draft, component_draft}
use Rattle.psa_names.specs.Chains.{leads, is_within}
use Rattle.psa_names.specs.NameFaults.{first_fault, name_fault}
use Rattle.psa_names.proofs.Entries.{one_gate_entries, one_gate_laid_out, gate_entries, gate_laid_out, repeated_entries, repeated_laid_out, house_entries, house_laid_out, short_group_entries, short_group_laid_out, group_entries, group_laid_out, component_entries, component_laid_out}

undefined_one : first_fault one_gate_entries ≡ Some (record { kind = Undefined; file = 0; line = 3; name = codes "G2" })
unfolding leads is_within
undefined_one = refl

pub one_gate : name_fault one_gate_draft ≡ Some (record { kind = Undefined; file = 0; line = 3; name = codes "G2" })
one_gate = ap first_fault one_gate_laid_out ∙ undefined_one

undefined_two : first_fault (gate_entries (codes "G9")) ≡ Some (record { kind = Undefined; file = 1; line = 3; name = codes "G9" })
unfolding leads is_within
undefined_two = refl

pub second_gate : name_fault (gate_draft (codes "G9")) ≡ Some (record { kind = Undefined; file = 1; line = 3; name = codes "G9" })
second_gate = ap first_fault (gate_laid_out (codes "G9")) ∙ undefined_two

cycle_two : first_fault (gate_entries (codes "G1")) ≡ Some (record { kind = Cycle; file = 0; line = 3; name = codes "G1" })
unfolding leads is_within
cycle_two = refl

pub cycle : name_fault (gate_draft (codes "G1")) ≡ Some (record { kind = Cycle; file = 0; line = 3; name = codes "G1" })
cycle = ap first_fault (gate_laid_out (codes "G1")) ∙ cycle_two

duplicate_two : first_fault repeated_entries ≡ Some (record { kind = Duplicate; file = 1; line = 3; name = codes "a" })
unfolding leads is_within
duplicate_two = refl

pub duplicate : name_fault repeated_draft ≡ Some (record { kind = Duplicate; file = 1; line = 3; name = codes "a" })
duplicate = ap first_fault repeated_laid_out ∙ duplicate_two

wrong_kind_two : first_fault house_entries ≡ Some (record { kind = WrongKind; file = 0; line = 3; name = codes "G2" })
unfolding leads is_within
wrong_kind_two = refl

pub wrong_kind : name_fault house_draft ≡ Some (record { kind = WrongKind; file = 0; line = 3; name = codes "G2" })
wrong_kind = ap first_fault house_laid_out ∙ wrong_kind_two

short : first_fault short_group_entries ≡ Some (record { kind = BadGroup; file = 0; line = 2; name = codes "G" })
unfolding leads is_within
short = refl

pub short_group : name_fault short_group_draft ≡ Some (record { kind = BadGroup; file = 0; line = 2; name = codes "G" })
short_group = ap first_fault short_group_laid_out ∙ short

whole_group : first_fault group_entries ≡ None
unfolding leads is_within
whole_group = refl

pub group : name_fault group_draft ≡ None
group = ap first_fault group_laid_out ∙ whole_group

two_components : first_fault (component_entries (codes "F.P.g") (codes "x")) ≡ None
unfolding leads is_within
two_components = refl

pub components : name_fault (component_draft (codes "F.P.g") (codes "x")) ≡ None
components = ap first_fault (component_laid_out (codes "F.P.g") (codes "x")) ∙ two_components

short_path : first_fault (component_entries (codes "P.g") (codes "x")) ≡ Some (record { kind = Undefined; file = 0; line = 3; name = codes "P.g" })
unfolding leads is_within
short_path = refl

pub path_without_tree : name_fault (component_draft (codes "P.g") (codes "x")) ≡ Some (record { kind = Undefined; file = 0; line = 3; name = codes "P.g" })
path_without_tree = ap first_fault (component_laid_out (codes "P.g") (codes "x")) ∙ short_path

other_event : first_fault (component_entries (codes "F.P.g") (codes "s")) ≡ Some (record { kind = Undefined; file = 0; line = 9; name = codes "x" })
unfolding leads is_within
other_event = refl

pub event_of_other : name_fault (component_draft (codes "F.P.g") (codes "s")) ≡ Some (record { kind = Undefined; file = 0; line = 9; name = codes "x" })
event_of_other = ap first_fault (component_laid_out (codes "F.P.g") (codes "s")) ∙ other_event
