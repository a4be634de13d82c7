-- Bytes that go through a buffer to a sink, one piece after another.
use Rattle.std.proofs.Common.{◌≡◌, ℕ, ◌+◌, List, [], ◌++◌, length, take, refl, sym, ◌∙◌, ap, subst, append_assoc, arith, length-append}
use Rattle.std.specs.Prelude.{Option, Some, None, Result, Ok, Err, OnOk, OnErr}
use Rattle.std.proofs.lemmas.List.{append-nil, take-append-le}
use Rattle.std.proofs.Math.Seq.{take-append-add}
use Rattle.io_edge.specs.Written.{Appends, AppendsSome}
use Rattle.run_text.specs.Buffered.{Passes, Fails, Puts}

-- bytes appended after bytes are appended
pub appends_then : (w : Option (List ℕ)) (x y : List ℕ) (w' w'' : Option (List ℕ)) → Appends w x w' → Appends w' y w'' → Appends w (x ++ y) w''
appends_then None x y w' w'' a b = subst (λ (v : Option (List ℕ)). Appends v y w'') a b
appends_then (Some u) x y w' w'' a b =
    let h : w'' ≡ Some (u ++ x ++ y) = subst (λ (v : Option (List ℕ)). Appends v y w'') a b in
    h ∙ ap (λ (z : List ℕ). Some z) (append_assoc u x y)

-- a prefix appended after bytes
pub some_then : (w : Option (List ℕ)) (x y : List ℕ) (w' w'' : Option (List ℕ)) → Appends w x w' → AppendsSome w' y w'' → AppendsSome w (x ++ y) w''
some_then w x y w' w'' a (k, h, b) = (
  length x + k,
  omega (arith, length-append x y),
  subst (λ (z : List ℕ). Appends w z w'') (sym (take-append-add x y k)) (appends_then w x (take k y) w' w'' a b),
)

-- a prefix of some bytes is one of these and more
pub some_of_more : (w : Option (List ℕ)) (x y : List ℕ) (w' : Option (List ℕ)) → AppendsSome w x w' → AppendsSome w (x ++ y) w'
some_of_more w x y w' (k, h, a) =
    (k, omega (arith, length-append x y), subst (λ (z : List ℕ). Appends w z w') (sym (take-append-le k x y h)) a)

-- what waited is written
pub flushed : (w : Option (List ℕ)) (p : List ℕ) (w' : Option (List ℕ)) → Appends w p w' → Passes w p [] w' []
flushed w p w' a = record { moved = p; appended = a; kept = refl }

-- where bytes passed, what waits before more bytes stands where they stood
pub passed_more : (m p' p x y : List ℕ) → m ++ p' ≡ p ++ x → m ++ (p' ++ y) ≡ p ++ (x ++ y)
passed_more m p' p x y e = sym (append_assoc m p' y) ∙ ap (λ (z : List ℕ). z ++ y) e ∙ append_assoc p x y

-- pieces that pass one after the other
pub passes_then : (w : Option (List ℕ)) (p x : List ℕ) (w' : Option (List ℕ)) (p' y : List ℕ) (w'' : Option (List ℕ)) (p'' : List ℕ)
    → Passes w p x w' p' → Passes w' p' y w'' p'' → Passes w p (x ++ y) w'' p''
passes_then w p x w' p' y w'' p'' a b = record {
  moved = a.moved ++ b.moved;
  appended = appends_then w a.moved b.moved w' w'' a.appended b.appended;
  kept = append_assoc a.moved b.moved p'' ∙ ap (λ (z : List ℕ). a.moved ++ z) b.kept ∙ passed_more a.moved p' p x y a.kept;
}

-- a piece that passes, and one that fails after it
pub fails_then : (w : Option (List ℕ)) (p x : List ℕ) (w' : Option (List ℕ)) (p' y : List ℕ) (w'' : Option (List ℕ)) (p'' : List ℕ)
    → Passes w p x w' p' → Fails w' p' y w'' p'' → Fails w p (x ++ y) w'' p''
fails_then w p x w' p' y w'' p'' a b = record {
  some = subst (λ (z : List ℕ). AppendsSome w z w'') (passed_more a.moved p' p x y a.kept) (some_then w a.moved (p' ++ y) w' w'' a.appended b.some);
  none_waits = b.none_waits;
}

-- a piece that passes, and one that is put after it
pub puts_then : {T E : Type 0} (r : Result T E) (w : Option (List ℕ)) (p x : List ℕ) (w' : Option (List ℕ)) (p' y : List ℕ)
    (w'' : Option (List ℕ)) (p'' : List ℕ)
    → Passes w p x w' p' → Puts r w' p' y w'' p'' → Puts r w p (x ++ y) w'' p''
puts_then (Ok x) = passes_then
puts_then (Err e) = fails_then

-- a piece that fails, and more that isn't tried
pub fails_more : (w : Option (List ℕ)) (p x y : List ℕ) (w' : Option (List ℕ)) (p' : List ℕ) → Fails w p x w' p' → Fails w p (x ++ y) w' p'
fails_more w p x y w' p' f =
    record { some = subst (λ (z : List ℕ). AppendsSome w z w') (append_assoc p x y) (some_of_more w (p ++ x) y w' f.some); none_waits = f.none_waits }

-- a piece that is put and fails, so that more isn't tried
pub puts_failed : {T E : Type 0} (r : Result T E) (e : E) (w : Option (List ℕ)) (p x y : List ℕ) (w' : Option (List ℕ)) (p' : List ℕ) → r ≡ Err e
    → Fails w p x w' p' → Puts r w p (x ++ y) w' p'
puts_failed {T} {E} r e w p x y w' p' is f = subst (λ (r : Result T E). Puts r w p (x ++ y) w' p') (sym is) (fails_more w p x y w' p' f)

-- no bytes pass
pub passes_none : (w : Option (List ℕ)) (p : List ℕ) → Passes w p [] w p
passes_none None p = record { moved = []; appended = refl; kept = sym (append-nil p) }
passes_none (Some u) p = record { moved = []; appended = ap (λ (z : List ℕ). Some z) (sym (append-nil u)); kept = sym (append-nil p) }

-- bytes pass that nothing waited before, and then what waits is written
pub ends_done : {T E : Type 0} (r : Result T E) (w : Option (List ℕ)) (p x : List ℕ) (w' : Option (List ℕ)) (p' : List ℕ) (w'' : Option (List ℕ))
    → p ≡ [] → Passes w p x w' p' → OnOk r (Appends w' p' w'') → OnOk r (Appends w x w'')
ends_done (Ok v) w p x w' p' w'' none a b =
    subst (λ (z : List ℕ). Appends w z w'') (a.kept ∙ ap (λ (z : List ℕ). z ++ x) none) (appends_then w a.moved p' w' w'' a.appended b)
ends_done (Err e) w p x w' p' w'' none a b = b

pub ends_failed : {T E : Type 0} (r : Result T E) (w : Option (List ℕ)) (p x : List ℕ) (w' : Option (List ℕ)) (p' : List ℕ) (w'' : Option (List ℕ))
    → p ≡ [] → Passes w p x w' p' → OnErr r (AppendsSome w' p' w'') → OnErr r (AppendsSome w x w'')
ends_failed (Ok v) w p x w' p' w'' none a b = b
ends_failed (Err e) w p x w' p' w'' none a b =
    subst (λ (z : List ℕ). AppendsSome w z w'') (a.kept ∙ ap (λ (z : List ℕ). z ++ x) none) (some_then w a.moved p' w' w'' a.appended b)
