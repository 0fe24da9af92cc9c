-- Text that people can read: characters in UTF-8, none of them a control character. Assumes nothing.
use Rattle.std.specs.Prelude.{ℕ, Bool, ◌&&◌, not, List, length, nat_lt}
use Rattle.std.specs.Char.{is_control}
use Rattle.std.specs.List.{list_any}
use Rattle.std.specs.Str.{is_utf8, chars}

-- at least one byte, in UTF-8, and no control character
abbrev pub is_text : List ℕ → Bool
is_text bs = is_utf8 bs && nat_lt 0 (length bs) && not (list_any is_control (chars bs))
