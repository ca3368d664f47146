-- What the check notes of each link, entry by entry. There is a place for each of 8,208 links, the most that a pool has; a number past them falls on the
-- place of another, and then the test has failed.
--     Noted                   what is noted so far
--     place_of                the place of a link
--     entered, entered_all    an entry is noted, and a list of entries
--     RoomFor                 what was seen can rise by so much and still fits 32 bits
--     once, outstanding       by how much an entry of the history raises what was seen of its link; an entry of a log raises it by 1
-- Assumes nothing.
use Rattle.std.specs.Prelude.{ℕ, ◌+◌, ◌≤◌, Bool, cond, ◌&&◌, List, [], ◌∷◌, leb, ltb, get_or, set}
use Rattle.rules.specs.Pool.{Entry}
use Rattle.rules.specs.Sound.{Each}

pub record Noted : Type 0 where
  -- every entry was in range
  pub ok : Bool
  -- how often each link stood in the logs and the uncleared history, and in the history
  pub seen : List ℕ
  -- the old value of the last entry for each link
  pub last : List ℕ

-- every number noted is at most some number, which can rise by so much
abbrev pub RoomFor : List ℕ → ℕ → Type 0
RoomFor seen more = (b : ℕ) × Each (λ x. x ≤ b) seen × (b + more ≤ 4294967295)

-- An entry of a log raises what was seen of its link by 1, one of the history by 131,072, and one of the history that is not yet cleared by both. Fewer than
-- 131,072 entries stand in all logs and the history, so that the two numbers stay apart
abbrev pub once : ℕ
once = 131072

abbrev pub outstanding : ℕ
outstanding = 131073

-- a number past the last place has the first
unfoldable pub place_of : ℕ → ℕ
place_of l = cond (ltb l 8208) l 0

unfoldable pub entered : (links records by : ℕ) → Entry → Noted → Noted
entered links records by e x =
    let place : ℕ = place_of e.link.0 in
    record {
      ok = x.ok && ltb e.link.0 links && leb e.old.0 records;
      seen = set x.seen place (get_or x.seen place 0 + by);
      last = set x.last place e.old.0;
    }

unfoldable pub entered_all : (links records by : ℕ) → List Entry → Noted → Noted
entered_all links records by [] x = x
entered_all links records by (e ∷ list) x = entered_all links records by list (entered links records by e x)
