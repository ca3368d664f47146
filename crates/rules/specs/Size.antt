-- "Sizes" of document 01.
--     in_range      the sizes are in range
--     links         S, the number of links
--     link_number   the number of link f of record a: the one way from a record number to a link number
--     board_number  the number of board entry e: the one way from a board entry to a link number
-- Assumes nothing.
use Rattle.std.specs.Prelude.{ℕ, ◌+◌, ◌-◌, ◌*◌, Bool, ◌&&◌, leb}
use Rattle.rules.specs.declared.Sizes.{Sizes}
use Rattle.rules.specs.declared.RecordNumber.{RecordNumber}
use Rattle.rules.specs.declared.LinkNumber.{LinkNumber}

abbrev pub between : ℕ → ℕ → ℕ → Bool
between low high x = leb low x && leb x high

-- "N records 1..1024, K links in each 1..8, W workers 1..8, R registers per worker 1..16." "Add B entries, 0 to 16" (document 02, request 5)
unfoldable pub in_range : Sizes → Bool
in_range s = between 1 1024 s.n && between 1 8 s.k && between 1 8 s.w && between 1 16 s.r && leb s.b 16

-- "S becomes N x K + B" (document 02, request 5)
unfoldable pub links : Sizes → ℕ
links s = s.n * s.k + s.b

-- "Link f of record a has the number (a-1) x K + f." None has no link: whoever asks for one has tested for none first, since 0 - 1 is 0 here
unfoldable pub link_number : Sizes → RecordNumber → ℕ → LinkNumber
link_number s a f = record { 0 = (a.0 - 1) * s.k + f }

-- "They are links like the others, numbered N x K and up" (document 02, request 5)
unfoldable pub board_number : Sizes → ℕ → LinkNumber
board_number s e = record { 0 = s.n * s.k + e }
