-- Bytes that have a meaning in the texts of the farm.
use Rattle.std.specs.Prelude.{ℕ, Bool, ◌||◌, ◌==◌}

abbrev pub tab : ℕ
tab = 9

abbrev pub line_feed : ℕ
line_feed = 10

abbrev pub form_feed : ℕ
form_feed = 12

abbrev pub space : ℕ
space = 32

-- `"`
abbrev pub double_quote : ℕ
double_quote = 34

-- `#`
abbrev pub hash : ℕ
hash = 35

-- `'`
abbrev pub single_quote : ℕ
single_quote = 39

-- `,`
abbrev pub comma : ℕ
comma = 44

-- `-`
abbrev pub dash : ℕ
dash = 45

-- `.`
abbrev pub dot : ℕ
dot = 46

-- `/`
abbrev pub slash : ℕ
slash = 47

-- `:`
abbrev pub colon : ℕ
colon = 58

-- `@`
abbrev pub at_sign : ℕ
at_sign = 64

-- `\`
abbrev pub backslash : ℕ
backslash = 92

-- `_`
abbrev pub underscore : ℕ
underscore = 95

-- space or tab
abbrev pub is_blank : ℕ → Bool
is_blank c = c == space || c == tab

-- space, tab or line feed
abbrev pub is_blank_or_line_feed : ℕ → Bool
is_blank_or_line_feed c = c == space || c == tab || c == line_feed
