-- How the input is cut into lines.
use Rattle.std.specs.Prelude.{ℕ, zero, suc, cond, List, [], ◌∷◌, length, take, drop, nat_le}
use Rattle.text.specs.declared.cutting.Piece as lent
use Rattle.text.specs.declared.cutting.Pieces as left

-- a line as the input has it: whole, or cut short by the input's end
pub data Piece : Type 0 where
  whole : List ℕ → Piece
  cut : List ℕ → Piece

-- the line of that length, where so many bytes are left
abbrev pub piece : ℕ → List ℕ → Piece
piece n bs = cond (nat_le n (length bs)) (whole (take n bs)) (cut bs)

-- at most k lines, each after a byte of its length
abbrev pub pieces_within : ℕ → List ℕ → List Piece
pieces_within zero bs = []
pieces_within (suc k) [] = []
pieces_within (suc k) (n ∷ bs) = piece n bs ∷ pieces_within k (drop n bs)

-- all of them: a line takes a byte or more
unfoldable pub pieces : List ℕ → List Piece
pieces bs = pieces_within (length bs) bs

-- a lent piece as a line
abbrev pub read_piece : lent.Piece → Piece
read_piece (lent.TheVariants.Whole line) = whole line.now
read_piece (lent.TheVariants.Cut rest) = cut rest.now

-- the lines that are left
abbrev pub pieces_left : left.Pieces → List Piece
pieces_left s = pieces s.0.now
