-- What the parser found, as the same record that the items of a reading give.
use Rattle.std.specs.Prelude.{Bool, true, false, List, [], Option, Some, None, codes, option_map, option_and_then, unwrap_or}
use Rattle.clap.specs.Words.{first_value, matched_of, raw_values}
use Rattle.clap.specs.declared.parser.matches.Found.{Found}
use Rattle.clap.specs.declared.parser.matches.ValueSource.{ValueSource}
use Rattle.clap.specs.declared.parser.matches.ValueSource.TheVariants.{DefaultValue, CommandLine}
use Rattle.psa_words.specs.Reading.{Text}
use Rattle.psa_words.specs.Options.{name_of, bdd, zbdd, prime_implicants, rare_event, mcub, ccf, validate, limit_order, cut_off, mission_time, node_limit, sample}
use Rattle.psa_words.specs.Given.{Given}

abbrev pub is_command_line : Option ValueSource → Bool
is_command_line (Some CommandLine) = true
is_command_line (Some DefaultValue) = false
is_command_line None = false

-- whether the words have the option
abbrev pub is_given : Found → Text → Bool
is_given found name = is_command_line (option_and_then (λ a. a.source) (matched_of found name))

abbrev pub all_names : Option (List Text) → List Text
all_names names = unwrap_or names []

abbrev pub names_in : Found → List Text
names_in found = all_names (option_map raw_values (matched_of found (codes "file")))

unfoldable pub given_in : Found → Given
given_in found = record {
  has_bdd = is_given found (name_of bdd);
  has_zbdd = is_given found (name_of zbdd);
  has_prime_implicants = is_given found (name_of prime_implicants);
  has_rare_event = is_given found (name_of rare_event);
  has_mcub = is_given found (name_of mcub);
  has_ccf = is_given found (name_of ccf);
  has_validate = is_given found (name_of validate);
  limit_order_text = first_value found (name_of limit_order);
  cut_off_text = first_value found (name_of cut_off);
  mission_time_text = first_value found (name_of mission_time);
  node_limit_text = first_value found (name_of node_limit);
  sample_text = first_value found (name_of sample);
  file_names = names_in found;
}
