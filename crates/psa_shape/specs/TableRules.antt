-- The rules of the code as rules of the element table.
use Rattle.std.specs.Prelude.{◌==◌, ℕ, Bool, List, [], ◌∷◌, ◌++◌, map, codes, flat_map, if◌then◌else◌}
use Rattle.std.specs.Option.{option_map}
use Rattle.psa_model.specs.PathNames.{Text, dot}
use Rattle.psa_elements.specs.ElementTable as definition
use Rattle.psa_shape.specs.declared.rules.AttributeName.{AttributeName}
use Rattle.psa_shape.specs.declared.rules.AttributeName.TheVariants as name
use Rattle.psa_shape.specs.declared.rules.Words.{Words}
use Rattle.psa_shape.specs.declared.rules.Words.TheVariants as words
use Rattle.psa_shape.specs.declared.rules.Allowed.{Allowed}
use Rattle.psa_shape.specs.declared.rules.Allowed.TheVariants as allowed
use Rattle.psa_shape.specs.declared.rules.AttributeRule.{AttributeRule}
use Rattle.psa_shape.specs.declared.rules.Part.{Part}
use Rattle.psa_shape.specs.declared.rules.Content.{Content}
use Rattle.psa_shape.specs.declared.rules.Content.TheVariants.{InAnyOrder, InThisOrder}
use Rattle.psa_shape.specs.declared.rules.Rule.{Rule}
use Rattle.psa_shape.specs.TableRows.{rows_of}

-- the name as it stands in a tag
abbrev pub text_of : AttributeName → Text
text_of name.Name = codes "name"
text_of name.Value = codes "value"
text_of name.Type = codes "type"
text_of name.Role = codes "role"
text_of name.Unit = codes "unit"
text_of name.Model = codes "model"
text_of name.Level = codes "level"
text_of name.EventTree = codes "event-tree"
text_of name.FunctionalEvent = codes "functional-event"
text_of name.State = codes "state"
text_of name.Min = codes "min"
text_of name.Max = codes "max"

abbrev pub words_of : Words → List Text
words_of words.Roles = codes "public" ∷ codes "private" ∷ []
words_of words.PublicRole = codes "public" ∷ []
words_of words.GroupModels = codes "beta-factor" ∷ codes "MGL" ∷ codes "alpha-factor" ∷ []
words_of words.EventTypes = codes "gate" ∷ codes "basic-event" ∷ codes "house-event" ∷ []
words_of words.States = codes "true" ∷ codes "false" ∷ []

abbrev pub seen_allowed : Allowed → definition.Allowed
seen_allowed allowed.AnyText = definition.any_text
seen_allowed allowed.Name = definition.a_name
seen_allowed allowed.Reference = definition.a_reference
seen_allowed (allowed.OneOf words) = definition.one_of (words_of words)
seen_allowed allowed.Digits = definition.a_number definition.are_digits
seen_allowed allowed.Decimal = definition.a_number definition.is_decimal
seen_allowed allowed.Whole = definition.a_number definition.is_whole

abbrev pub seen_attribute : AttributeRule → definition.AttributeRule
seen_attribute rule = record {
  name = text_of rule.name;
  is_required = rule.is_required;
  allowed = seen_allowed rule.allowed;
}

abbrev pub seen_part : Part → definition.Part
seen_part part = record { rows = rows_of part.rows; least = part.least; most = part.most }

abbrev pub seen_content : Content → definition.Content
seen_content (InAnyOrder parts) = definition.in_any_order (map seen_part parts.now)
seen_content (InThisOrder parts) = definition.in_this_order (map seen_part parts.now)

abbrev pub seen_rule : Rule → definition.Rule
seen_rule rule = record {
  attribute_rules = option_map (λ rules. map seen_attribute rules.now) rule.attributes;
  is_labelled = rule.is_labelled;
  content = seen_content rule.content;
}

-- the rows that the children of an element with this rule may have
abbrev pub rows_by : definition.Rule → List definition.Row
rows_by rule =
    (if rule.is_labelled then definition.label_rows else [])
    ++ flat_map (λ part. part.rows) (definition.parts_of rule.content)

-- the byte that joins the names of a path
abbrev pub is_dot : ℕ → Bool
is_dot byte = byte == dot
