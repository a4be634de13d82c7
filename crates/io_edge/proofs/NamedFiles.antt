-- The files that a caller hands in, as they are told.
use Rattle.std.proofs.Common.{◌≡◌, ◌<◌, ◌+◌, ℕ, Bool, List, [], ◌∷◌, length, map, cond, not, position, String, Vec, slice_index_or, refl, ap}
use Rattle.std.specs.List.{position_or_len}
use Rattle.std.proofs.lemmas.List.{get_or-map, length-map}
use Rattle.io_edge.specs.FileHolding.{NamedFile, named_file, bytes_at, no_file}

position_or_len-map : {X Y : Type 0} (p : Y → Bool) (f : X → Y) (xs : List X) → position_or_len p (map f xs) ≡ position_or_len (λ x. p (f x)) xs
position_or_len-map p f [] = refl
position_or_len-map p f (x ∷ xs) = ap (λ (n : ℕ). cond (not (p (f x))) (1 + n) 0) (position_or_len-map p f xs)

pub position-map : {X Y : Type 0} (p : Y → Bool) (f : X → Y) (xs : List X) → position p (map f xs) ≡ position (λ x. p (f x)) xs
position-map p f xs = simp (position_or_len-map, length-map)

-- the bytes at a place
pub bytes_at-map : {A B : Type 0} (files : List (String A × Vec ℕ B)) (place : ℕ) (d : String A × Vec ℕ B) → place < length files
    → bytes_at (map named_file files) place ≡ (named_file (slice_index_or files place d)).bytes
bytes_at-map files place d within = ap (λ (file : NamedFile). file.bytes) (get_or-map named_file files place d no_file within)
