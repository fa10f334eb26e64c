-- Bytes by their names. (ASCII)
use Rattle.std.specs.Prelude.{ℕ, List, [], ◌∷◌}

-- a tab, which is blank
abbrev pub tab : ℕ
tab = 9

-- LF, which ends a line
abbrev pub line_feed : ℕ
line_feed = 10

-- CR, which is blank
abbrev pub carriage_return : ℕ
carriage_return = 13

-- a space, which is blank
abbrev pub space : ℕ
space = 32

abbrev pub exclamation_mark : ℕ
exclamation_mark = 33

-- `"`, which quotes a value
abbrev pub quotation_mark : ℕ
quotation_mark = 34

abbrev pub number_sign : ℕ
number_sign = 35

-- `&`, which begins a reference
abbrev pub ampersand : ℕ
ampersand = 38

-- `'`, which quotes a value
abbrev pub apostrophe : ℕ
apostrophe = 39

-- `-`
abbrev pub hyphen : ℕ
hyphen = 45

-- `.`
abbrev pub full_stop : ℕ
full_stop = 46

abbrev pub slash : ℕ
slash = 47

-- `0`
abbrev pub digit_zero : ℕ
digit_zero = 48

-- `9`
abbrev pub digit_nine : ℕ
digit_nine = 57

-- `:`
abbrev pub colon : ℕ
colon = 58

abbrev pub semicolon : ℕ
semicolon = 59

-- `<`, which begins a tag
abbrev pub less_than : ℕ
less_than = 60

-- `=`, between an attribute's name and its value
abbrev pub equals_sign : ℕ
equals_sign = 61

-- `>`, which ends a tag
abbrev pub greater_than : ℕ
greater_than = 62

abbrev pub question_mark : ℕ
question_mark = 63

-- `A`
abbrev pub upper_a : ℕ
upper_a = 65

abbrev pub upper_d : ℕ
upper_d = 68

-- `F`
abbrev pub upper_f : ℕ
upper_f = 70

-- `Z`
abbrev pub upper_z : ℕ
upper_z = 90

-- `[`, which no document type may have
abbrev pub left_bracket : ℕ
left_bracket = 91

-- `_`
abbrev pub underscore : ℕ
underscore = 95

-- `a`
abbrev pub lower_a : ℕ
lower_a = 97

-- `f`
abbrev pub lower_f : ℕ
lower_f = 102

abbrev pub lower_g : ℕ
lower_g = 103

abbrev pub lower_l : ℕ
lower_l = 108

abbrev pub lower_m : ℕ
lower_m = 109

abbrev pub lower_p : ℕ
lower_p = 112

abbrev pub lower_q : ℕ
lower_q = 113

abbrev pub lower_x : ℕ
lower_x = 120

-- `z`
abbrev pub lower_z : ℕ
lower_z = 122

-- the first byte that is not ASCII
abbrev pub first_beyond_ascii : ℕ
first_beyond_ascii = 128

-- the bytes of a byte order mark: U+FEFF as UTF-8
abbrev pub first_mark_byte : ℕ
first_mark_byte = 0xEF

-- the second byte of a byte order mark
abbrev pub second_mark_byte : ℕ
second_mark_byte = 0xBB

-- the third byte of a byte order mark
abbrev pub third_mark_byte : ℕ
third_mark_byte = 0xBF

-- the byte order mark of UTF-8
abbrev pub byte_order_mark : List ℕ
byte_order_mark = first_mark_byte ∷ second_mark_byte ∷ third_mark_byte ∷ []
