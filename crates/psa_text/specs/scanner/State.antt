-- What a scanner has read, and what a call of it answers. The byte-by-byte functions here are the scanner's own way;
-- what they mean is said by TextFaults.antt alone.
use Rattle.std.specs.Prelude.{◌≡◌, ℕ, ◌+◌, if◌then◌else◌, ◌&&◌, ◌==◌, List, [], ◌∷◌, Option, Some, None, Result, Ok, Err}
use Rattle.psa_text.specs.declared.tree.Element.{Element}
use Rattle.psa_text.specs.declared.tree.Document.{Document}
use Rattle.psa_text.specs.declared.scanner.Scanner.{Scanner}
use Rattle.psa_text.specs.declared.scanner.item.Item.{Item}
use Rattle.psa_text.specs.declared.scanner.mark.Mark.{Mark}
use Rattle.psa_text.specs.declared.scanner.mark.Mark.TheVariants.{Unread, FirstByte, SecondByte, Passed}
use Rattle.psa_text.specs.declared.scanner.error.TextFault.{TextFault}
use Rattle.psa_text.specs.declared.scanner.error.TextKind.TheVariants.{LongFile, BadMarkup, LongToken, BadNesting}
use Rattle.psa_text.specs.declared.scanner.error.TextError.{TextError}
use Rattle.psa_text.specs.declared.scanner.error.TextError.TheVariants.{Fault, Memory}
use Rattle.psa_text.specs.scanner.Nesting.{State, at_start, state_of, finished_root, nesting_after_item}
use Rattle.psa_text.specs.TextFaults.{begins_element, fault, NoFault, FirstFault, IsTree, EndsIn}
use Rattle.psa_text.specs.scanner.Machine as machine
use Rattle.psa_text.specs.scanner.View.{lex_of, Judged, IsBad, IsLong, On, Done, judgement}
use Rattle.psa_text.specs.NamedBytes.{line_feed, first_mark_byte, second_mark_byte, third_mark_byte}
use Rattle.psa_text.specs.declared.limits.TheConstants.{MAX_ELEMENTS, MAX_FILE_BYTES}

-- what a scanner stands at: its byte order mark; how many bytes it has read; the line of the next; the line of the
-- first byte of the item under way or next; how many elements have begun; where in an item; the open elements
pub record Scan : Type 0 where
  pub mark : Mark
  pub count : ℕ
  pub line : ℕ
  pub start : ℕ
  pub elements : ℕ
  pub lex : machine.Lex
  pub nesting : State

abbrev pub start_scan : Scan
start_scan = record { mark = Unread; count = 0; line = 1; start = 1; elements = 0; lex = machine.Between; nesting = at_start }

abbrev pub line_after_byte : ℕ → ℕ → ℕ
line_after_byte line b = if b == line_feed then line + 1 else line

abbrev pub scan_after_item : Scan → ℕ → Item → Option State → Result Scan TextFault
scan_after_item s b item None = Err (fault BadNesting s.start)
scan_after_item s b item (Some t) = Ok (record { mark = Passed; count = s.count + 1; line = line_after_byte s.line b; start = line_after_byte s.line b; elements = s.elements + (if begins_element item then 1 else 0); lex = machine.Between; nesting = t })

abbrev pub scan_after_judged : Scan → ℕ → Judged → Result Scan TextFault
scan_after_judged s b IsBad = Err (fault BadMarkup s.start)
scan_after_judged s b IsLong = Err (fault LongToken s.start)
scan_after_judged s b (On q) = Ok (record { mark = Passed; count = s.count + 1; line = line_after_byte s.line b; start = s.start; elements = s.elements; lex = q; nesting = s.nesting })
scan_after_judged s b (Done item) = scan_after_item s b item (nesting_after_item item s.start s.nesting)

abbrev pub scan_after_item_byte : Scan → ℕ → Result Scan TextFault
scan_after_item_byte s b = if (s.elements == MAX_ELEMENTS) && machine.begins_tag s.lex b then Err (fault LongFile s.line) else scan_after_judged s b (judgement s.lex b)

-- one more byte of the byte order mark
abbrev pub scan_with_mark : Scan → Mark → Scan
scan_with_mark s mark = record s { mark = mark; count = s.count + 1 }

abbrev pub scan_after_at : Mark → Scan → ℕ → Result Scan TextFault
scan_after_at Unread s b = if b == first_mark_byte then Ok (scan_with_mark s FirstByte) else scan_after_item_byte s b
scan_after_at FirstByte s b = if b == second_mark_byte then Ok (scan_with_mark s SecondByte) else Err (fault BadNesting 1)
scan_after_at SecondByte s b = if b == third_mark_byte then Ok (scan_with_mark s Passed) else Err (fault BadNesting 1)
scan_after_at Passed s b = scan_after_item_byte s b

-- the scan after one more byte, or the fault that the byte decides
abbrev pub scan_after : Scan → ℕ → Result Scan TextFault
scan_after s b = if s.count == MAX_FILE_BYTES then Err (fault LongFile s.line) else scan_after_at s.mark s b

-- the same over bytes
abbrev pub and_then : Result Scan TextFault → (Scan → Result Scan TextFault) → Result Scan TextFault
and_then (Ok s) f = f s
and_then (Err found) f = Err found

abbrev pub scan_after_bytes : Scan → List ℕ → Result Scan TextFault
scan_after_bytes s [] = Ok s
scan_after_bytes s (b ∷ bs) = and_then (scan_after s b) (λ t. scan_after_bytes t bs)

-- the root at the end
abbrev pub root_or : ℕ → Option Element → Result Element TextFault
root_or line (Some root) = Ok root
root_or line None = Err (fault BadNesting line)

abbrev pub root_at_end : Scan → Result Element TextFault
root_at_end s = if machine.is_between s.lex then root_or s.line (finished_root s.nesting) else Err (fault BadMarkup s.start)

abbrev pub scan_of : Scanner → Scan
scan_of s = record { mark = s.mark; count = s.count; line = s.line; start = s.start; elements = s.elements; lex = lex_of s.lexer; nesting = state_of s.builder }

-- The scanner has read these bytes: it stands where they lead, and no call has failed.
abbrev pub HasRead : Scanner → List ℕ → Type 0
HasRead s bytes = (s.failed ≡ None) × (scan_after_bytes start_scan bytes ≡ Ok (scan_of s))

-- The scanner has answered this error.
abbrev pub HasFailed : Scanner → TextError → Type 0
HasFailed s error = s.failed ≡ Some error

-- One more byte and its line are counted.
pub record Passes (b : ℕ) (old now : Scanner) : Type 0 where
  pub scan : scan_of now ≡ record (scan_of old) { mark = Passed; count = old.count + 1; line = line_after_byte old.line b }
  pub failed : now.failed ≡ old.failed

-- A step gives the scan after the byte or the fault, unless memory runs out.
abbrev pub Steps : Result Scan TextFault → Scanner → Result (Unit {0}) TextError → Type 0
Steps does now (Ok done) = (does ≡ Ok (scan_of now)) × (now.failed ≡ None)
Steps does now (Err (Fault found)) = does ≡ Err found
Steps does now (Err Memory) = Unit {0}

-- What a call over these bytes answers: it has read them, and none decides a fault; or the fault of the earliest that
-- decides one; or want of memory.
abbrev pub Answers : List ℕ → Scanner → Result (Unit {0}) TextError → Type 0
Answers bytes now (Ok done) = HasRead now bytes × NoFault bytes
Answers bytes now (Err (Fault found)) = FirstFault bytes found
Answers bytes now (Err Memory) = Unit {0}

-- What is answered at the end of these bytes: their tree, or the fault at their end. It takes no memory.
abbrev pub Ends : List ℕ → Result Document TextError → Type 0
Ends bytes (Ok document) = IsTree bytes document.root × NoFault bytes
Ends bytes (Err (Fault found)) = EndsIn bytes found × NoFault bytes
Ends bytes (Err Memory) = ⊥
