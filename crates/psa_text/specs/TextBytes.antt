-- The bytes of a text and their classes. (XML 1.0, productions 3 to 5, 25, 66 and 68; that a byte of 128 or more may
-- stand anywhere in a name, and the greatest numbers of digits, are this project's own.)
use Rattle.std.specs.Prelude.{◌≡◌, ℕ, ◌+◌, ◌*◌, ◌-◌, Bool, true, false, if◌then◌else◌, not, ◌&&◌, ◌||◌, ◌==◌, nat_le, nat_lt, List, [], ◌∷◌, reverse, count_by, Option, Some, None, ◌<◌}
use Rattle.std.specs.List.{AllByRecursion, fold}
use Rattle.psa_text.specs.NamedBytes.{tab, line_feed, carriage_return, space, quotation_mark, ampersand, apostrophe, hyphen, full_stop, digit_zero, digit_nine, colon, less_than, greater_than, upper_a, upper_f, upper_z, left_bracket, underscore, lower_a, lower_f, lower_z, first_beyond_ascii}

-- each passes the test
abbrev pub AllPass : {X : Type 0} → (X → Bool) → List X → Type 0
AllPass test xs = AllByRecursion (λ x. test x ≡ true) xs

-- space, tab, CR and LF
abbrev pub is_blank : ℕ → Bool
is_blank b = (b == space) || (b == tab) || (b == carriage_return) || (b == line_feed)

-- all bytes are blank
abbrev pub AreBlanks : List ℕ → Type 0
AreBlanks bytes = AllPass is_blank bytes

-- a decimal digit
abbrev pub is_digit : ℕ → Bool
is_digit b = nat_le digit_zero b && nat_le b digit_nine

-- a letter, `_`, `:`, or a byte of 128 or more
abbrev pub is_name_start : ℕ → Bool
is_name_start b = (nat_le lower_a b && nat_le b lower_z) || (nat_le upper_a b && nat_le b upper_z) || (b == underscore) || (b == colon) || nat_le first_beyond_ascii b

-- a byte of a name behind its first
abbrev pub is_name_byte : ℕ → Bool
is_name_byte b = is_name_start b || is_digit b || (b == hyphen) || (b == full_stop)

-- a name of the markup: a first byte, then bytes of names
abbrev pub IsName : List ℕ → Type 0
IsName [] = ⊥
IsName (b ∷ bs) = (is_name_start b ≡ true) × AllPass is_name_byte bs

-- `"` and `'`
abbrev pub is_quote : ℕ → Bool
is_quote b = (b == quotation_mark) || (b == apostrophe)

-- a byte in a doctype behind its blank
abbrev pub is_doctype_byte : ℕ → Bool
is_doctype_byte b = not ((b == greater_than) || (b == left_bracket) || (b == less_than))

-- a byte that a value holds as itself: not its quote, `&` or `<`
abbrev pub is_value_byte : ℕ → ℕ → Bool
is_value_byte quote b = not ((b == quote) || (b == ampersand) || (b == less_than))

-- A tab, CR or LF in a value counts as a space. (XML 1.0, section 3.3.3)
abbrev pub spaced : ℕ → ℕ
spaced b = if is_blank b then space else b

-- without the spaces at the front
abbrev pub trimmed_front : List ℕ → List ℕ
trimmed_front [] = []
trimmed_front (b ∷ bs) = if b == space then trimmed_front bs else b ∷ bs

-- without the spaces at the end, and at both ends
abbrev pub trimmed_end : List ℕ → List ℕ
trimmed_end bytes = reverse (trimmed_front (reverse bytes))

-- without the spaces at both ends
abbrev pub trimmed : List ℕ → List ℕ
trimmed bytes = trimmed_end (trimmed_front bytes)

-- a digit of a base of 10 or 16, and its value
abbrev pub is_digit_of : ℕ → ℕ → Bool
is_digit_of base b = is_digit b || ((base == 16) && ((nat_le lower_a b && nat_le b lower_f) || (nat_le upper_a b && nat_le b upper_f)))

-- the value of a decimal or hexadecimal digit
abbrev pub digit_of : ℕ → ℕ
digit_of b = if nat_le b digit_nine then b - digit_zero else if nat_le b upper_f then b - upper_a + 10 else b - lower_a + 10

-- the value of a digit, or no digit of the base
abbrev pub IsDigitValue : ℕ → ℕ → Option ℕ → Type 0
IsDigitValue base b (Some value) = (is_digit_of base b ≡ true) × (value ≡ digit_of b) × (value < base)
IsDigitValue base b None = is_digit_of base b ≡ false

-- the number that digits spell in a base, behind those of a number
abbrev pub number_behind : ℕ → ℕ → List ℕ → ℕ
number_behind base number digits = fold (λ n b. base * n + digit_of b) number digits

-- a character that a reference may stand for: a Unicode scalar value other than 0
abbrev pub is_character : ℕ → Bool
is_character code = nat_lt 0 code && (nat_lt code 0xD800 || (nat_le 0xE000 code && nat_lt code 0x11_0000))

-- The line of a byte is 1 plus the number of LF before it.
abbrev pub line_after : List ℕ → ℕ
line_after bytes = 1 + count_by (λ b. b == line_feed) bytes
