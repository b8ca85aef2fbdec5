-- The limits of a listing.
use Rattle.std.specs.Prelude.{ℕ}

-- bytes of a text
abbrev pub largest_text : ℕ
largest_text = 16384

-- bytes of a line before its line feed
abbrev pub largest_line : ℕ
largest_line = 120

-- bytes of a name
abbrev pub largest_name : ℕ
largest_name = 8

abbrev pub most_elements : ℕ
most_elements = 32

abbrev pub most_nodes : ℕ
most_nodes = 33
