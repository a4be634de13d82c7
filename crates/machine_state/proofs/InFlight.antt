-- The transfer at a place has the sources that each transfer in flight has.
use Rattle.std.proofs.Common.{◌≡◌, ℕ, zero, suc, List, [], ◌∷◌, Bor, Option, Some, None, IfSome, slice_get, option_copied, sym, subst}
use Rattle.std.proofs.lemmas.Option.{none-some, same_Some}
use Rattle.swap_book.specs.Holdings.{Holdings}
use Rattle.transfer_ring.specs.declared.transfer.Transfer.{Transfer as Flight}
use Rattle.table_steps.specs.Sourced.{ImageNamed, IsFlightSourced, AreSourced}

sourced_in : (ns : List ImageNamed) (f : ℕ → ℕ) (hs : Holdings) (size : ℕ) (ts : List Flight) (place : ℕ) (t : Flight) → AreSourced ns f hs size ts
    → Some t ≡ slice_get ts place → IsFlightSourced ns f hs size t
sourced_in ns f hs size [] place t h is = absurd (none-some t (sym is))
sourced_in ns f hs size (x ∷ ts) zero t h is = subst (IsFlightSourced ns f hs size) (sym (same_Some t x is)) h.0
sourced_in ns f hs size (x ∷ ts) (suc n) t h is = sourced_in ns f hs size ts n t h.1 is

pub sourced_at : (ns : List ImageNamed) (f : ℕ → ℕ) (hs : Holdings) (size : ℕ) (ts : List Flight) (place : ℕ) (r : Option (Bor Flight))
    → AreSourced ns f hs size ts → option_copied r ≡ slice_get ts place → IfSome r (λ (t : Bor Flight). IsFlightSourced ns f hs size t.now)
sourced_at ns f hs size ts place None h is = tt
sourced_at ns f hs size ts place (Some t) h is = sourced_in ns f hs size ts place t.now h is
