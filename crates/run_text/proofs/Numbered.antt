-- Numbers of a type are below its bound.
use Rattle.std.proofs.Common.{ℕ, suc, ◌+◌, ◌<◌, List, [], ◌∷◌, ◌++◌, length, take, get_or, Fits, w8, w32, sym, subst, arith}
use Rattle.std.proofs.lemmas.List.{take_more}
use Rattle.vm_facts.specs.declared.entry.Entry.{Entry}
use Rattle.run_text.specs.Transcript.{AllBelow, HasNumbers, HaveNumbers}

pub bytes_below : (bytes : List ℕ) → ((i : ℕ) → Fits w8 (get_or bytes i 0)) → AllBelow 256 bytes
bytes_below [] fits = tt
bytes_below (byte ∷ bytes) fits = (let low : Fits w8 byte = fits 0 in omega (arith, low), bytes_below bytes (λ i. fits (suc i)))

pub longwords_below : (numbers : List ℕ) → ((i : ℕ) → Fits w32 (get_or numbers i 0)) → AllBelow 4294967296 numbers
longwords_below [] fits = tt
longwords_below (n ∷ numbers) fits = (let low : Fits w32 n = fits 0 in omega (arith, low), longwords_below numbers (λ i. fits (suc i)))

numbers_behind : (es : List Entry) (e : Entry) → HaveNumbers es → HasNumbers e → HaveNumbers (es ++ e ∷ [])
numbers_behind [] e all one = (one, tt)
numbers_behind (f ∷ es) e all one = (all.0, numbers_behind es e all.1 one)

-- the entries so far, and one more
pub numbers_more : (es : List Entry) (i : ℕ) (d : Entry) → i < length es → HasNumbers (get_or es i d) → HaveNumbers (take i es) → HaveNumbers (take (i + 1) es)
numbers_more es i d below one all = subst HaveNumbers (sym (take_more es i d below)) (numbers_behind (take i es) (get_or es i d) all one)
