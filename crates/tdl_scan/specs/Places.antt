-- Lines and columns.
use Rattle.std.specs.Prelude.{ℕ, ◌+◌, ◌==◌, List, reverse}
use Rattle.std.specs.List.{count_by, prefix_len}
use Rattle.tdl_scan.specs.declared.place.SourcePlace.{SourcePlace}
use Rattle.tdl_scan.specs.Pieces.{is_no_end}

-- the line after the bytes: 1 and the line feeds in them
abbrev pub line_after : List ℕ → ℕ
line_after bytes = 1 + count_by (λ c. c == 10) bytes

-- the column after the bytes: 1 and the bytes after their last line feed
abbrev pub col_after : List ℕ → ℕ
col_after bytes = 1 + prefix_len is_no_end (reverse bytes)

-- the place after the bytes
abbrev pub place_after : List ℕ → SourcePlace
place_after bytes = record { line = line_after bytes; col = col_after bytes }

-- the place after the whole source
abbrev pub end_place : List ℕ → SourcePlace
end_place source = place_after source
