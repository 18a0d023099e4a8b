-- The bytes that have a meaning in the text form, by name. Their numbers are those of ASCII.
use Rattle.std.specs.Prelude.{ℕ}

-- the character of a tab
abbrev pub tab : ℕ
tab = 9

-- the character of a line feed
abbrev pub line_feed : ℕ
line_feed = 10

-- the character of a carriage return
abbrev pub carriage_return : ℕ
carriage_return = 13

-- the character of a space
abbrev pub space : ℕ
space = 32

-- the character "
abbrev pub quote : ℕ
quote = 34

-- the character *
abbrev pub star : ℕ
star = 42

-- the character +
abbrev pub plus : ℕ
plus = 43

-- the character ,
abbrev pub comma : ℕ
comma = 44

-- the character -
abbrev pub dash : ℕ
dash = 45

-- the character /
abbrev pub slash : ℕ
slash = 47

-- the character 0
abbrev pub digit_0 : ℕ
digit_0 = 48

-- the character :
abbrev pub colon : ℕ
colon = 58

-- the character {
abbrev pub left_brace : ℕ
left_brace = 123

-- the character }
abbrev pub right_brace : ℕ
right_brace = 125
