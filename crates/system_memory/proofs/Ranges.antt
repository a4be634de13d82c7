-- A piece over bytes that were filled up with zeros as far as it reaches.
use Rattle.std.proofs.Common.{◌≡◌, ◌≤◌, ◌+◌, ◌-◌, ℕ, List, [], ◌++◌, length, take, drop, replicate, ap, sym, ◌∙◌, inl, inr, arith, length-append, append_assoc}
use Rattle.std.proofs.lemmas.Bool.{cases_lt}
use Rattle.std.proofs.lemmas.List.{append-nil, nil_from_length, length-replicate, length-drop, length-take-le, take-append-le, replicate-append-replicate}
use Rattle.system_calls.specs.Bytes.{filled_to, written_over}

front : (offset many : ℕ) (bytes : List ℕ) → take offset (filled_to (offset + many) bytes) ≡ take offset (filled_to offset bytes)
front offset many bytes =
    let few : ℕ = offset - length bytes in
    let rest : ℕ = offset + many - length bytes - few in
    let long : length (filled_to offset bytes) ≡ length bytes + few =
    length-append bytes (replicate few 0) ∙ ap (λ (n : ℕ). length bytes + n) (length-replicate few 0) in
    ap (λ (n : ℕ). take offset (bytes ++ replicate n 0)) (omega arith)
    ∙ ap (λ (xs : List ℕ). take offset (bytes ++ xs)) (sym (replicate-append-replicate few rest 0))
    ∙ ap (λ (xs : List ℕ). take offset xs) (sym (append_assoc bytes (replicate few 0) (replicate rest 0)))
    ∙ take-append-le offset (filled_to offset bytes) (replicate rest 0) (omega (arith, long))

back : (end : ℕ) (bytes : List ℕ) → drop end (filled_to end bytes) ≡ drop end bytes
back end bytes = elim (cases_lt (length bytes) end) [
  | inl past ↦
      let zeros : List ℕ = replicate (end - length bytes) 0 in
      let long : length (bytes ++ zeros) ≡ end = omega (arith, past, length-append bytes zeros, length-replicate {A = ℕ} (end - length bytes) 0) in
      nil_from_length (drop end (bytes ++ zeros)) (omega (arith, long, length-drop end (bytes ++ zeros)))
      ∙ sym (nil_from_length (drop end bytes) (omega (arith, past, length-drop end bytes)))
  | inr within ↦
      (let none : end - length bytes ≡ 0 = omega (arith, within) in ap (λ (n : ℕ). drop end (bytes ++ replicate n 0)) none) ∙ ap (λ (xs : List ℕ). drop end xs) (append-nil bytes)
]

pub over_grown : (offset : ℕ) (bytes grown over piece : List ℕ) → grown ≡ filled_to (offset + length piece) bytes
    → over ≡ take offset grown ++ piece ++ drop (offset + length piece) grown → over ≡ written_over bytes offset piece
over_grown offset bytes grown over piece is put =
    put
    ∙ ap (λ (xs : List ℕ). take offset xs ++ piece ++ drop (offset + length piece) xs) is
    ∙ ap (λ (xs : List ℕ). xs ++ piece ++ drop (offset + length piece) (filled_to (offset + length piece) bytes)) (front offset (length piece) bytes)
    ∙ ap (λ (xs : List ℕ). (take offset (filled_to offset bytes) ++ piece) ++ xs) (back (offset + length piece) bytes)

-- bytes that were filled up to a place reach it
pub length-filled : (end : ℕ) (bytes grown : List ℕ) → grown ≡ filled_to end bytes → end ≤ length grown
length-filled end bytes grown is =
    let zeros : List ℕ = replicate (end - length bytes) 0 in
    omega (arith, ap length is, length-append bytes zeros, length-replicate {A = ℕ} (end - length bytes) 0)

-- a piece that ends within them leaves them as long
pub length-over : (offset : ℕ) (bytes piece : List ℕ) → offset + length piece ≤ length bytes
    → length (take offset bytes ++ piece ++ drop (offset + length piece) bytes) ≡ length bytes
length-over offset bytes piece within = omega (
  arith,
  within,
  length-append (take offset bytes ++ piece) (drop (offset + length piece) bytes),
  length-append (take offset bytes) piece,
  length-take-le offset bytes (omega (arith, within)),
  length-drop (offset + length piece) bytes,
)
