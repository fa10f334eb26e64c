-- The line that a fault of a model is told by. The texts are this project's own.
use Rattle.std.specs.Prelude.{ℕ, Bool, true, false, List, [], ◌++◌, codes, decimal, if◌then◌else◌}
use Rattle.psa_model.specs.declared.fault.FaultKind.{FaultKind}
use Rattle.psa_model.specs.declared.fault.FaultKind.TheVariants.{LongFile, BadMarkup, LongToken, BadNesting, UnknownElement, BadAttribute, BadNumber, BadName, BadShape, Duplicate, Undefined, WrongKind, BadGroup, Cycle, TooDeep, LongPath, TooManyPaths, TooManyEvents, NoValue, ZeroDivisor, TooLarge, NegativeRate, NotProbability}
use Rattle.psa_model.specs.declared.fault.ModelFault.{ModelFault}

-- what is said of a fault; where its name follows, a space is last
abbrev pub fault_words : FaultKind → List ℕ
fault_words LongFile = codes "file too long"
fault_words BadMarkup = codes "bad markup"
fault_words LongToken = codes "token too long"
fault_words BadNesting = codes "bad nesting"
fault_words UnknownElement = codes "unknown element "
fault_words BadAttribute = codes "bad attribute "
fault_words BadNumber = codes "bad number "
fault_words BadName = codes "bad name "
fault_words BadShape = codes "bad shape "
fault_words Duplicate = codes "duplicate "
fault_words Undefined = codes "undefined "
fault_words WrongKind = codes "wrong kind "
fault_words BadGroup = codes "bad group "
fault_words Cycle = codes "cycle "
fault_words TooDeep = codes "too deep "
fault_words LongPath = codes "long path "
fault_words TooManyPaths = codes "too many paths "
fault_words TooManyEvents = codes "too many events "
fault_words NoValue = codes "no value "
fault_words ZeroDivisor = codes "zero divisor "
fault_words TooLarge = codes "too large "
fault_words NegativeRate = codes "negative rate "
fault_words NotProbability = codes "not a probability "

-- a fault of this kind tells a name: each but those of a text
abbrev pub tells_name : FaultKind → Bool
tells_name LongFile = false
tells_name BadMarkup = false
tells_name LongToken = false
tells_name BadNesting = false
tells_name _ = true

-- the name that is told of a fault
abbrev pub told_name : ModelFault → List ℕ
told_name found = if tells_name found.kind then found.name else []

-- the text of a fault: its words, and the name that is told
abbrev pub fault_text : ModelFault → List ℕ
fault_text found = fault_words found.kind ++ told_name found

-- the line of a fault in the file of this name
abbrev pub fault_line : List ℕ → ModelFault → List ℕ
fault_line file found =
    codes "scram: " ++ file ++ codes ":" ++ decimal found.line ++ codes ": " ++ fault_text found ++ codes "\n"
