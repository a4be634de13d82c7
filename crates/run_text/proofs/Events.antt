-- Texts that are none of an event.
use Rattle.std.proofs.Common.{◌≡◌, ◌≢◌, ℕ, ◌^◌, ◌<◌, List, [], ◌∷◌, ◌++◌, length, sym, ◌∙◌, subst, arith, codes, lit<, get_or, suc, zero}
use Rattle.std.specs.Str.Parse.{AllDigits}
use Rattle.std.proofs.lemmas.Str.Parse.{digit_from_value}
use Rattle.vm_facts.specs.declared.event.Event.{Event}
use Rattle.vm_facts.specs.declared.event.Event.TheVariants.{Dispatch, Interrupt, Hands, Swapper, Audit}
use Rattle.run_text.specs.Schedule.{Writes, IsEvent, IsEventLine, IsInRanges}
use Rattle.run_text.specs.Lines.{AreLines}
use Rattle.run_text.specs.declared.limits.TheConstants.{LAST_PROCESS, MOST_TURN, MOST_MOVES}
use Rattle.run_text.specs.Pieces.{HasNo}
use Rattle.run_text.proofs.LineEnds.{cut_once, no_cut}

-- a byte that is no digit doesn't stand among digits
pub digits_no : (c : ℕ) (ds : List ℕ) → (c < 48) → AllDigits 10 ds → HasNo c ds
digits_no c [] low h = tt
digits_no c (d ∷ ds) low h = (λ e. omega (arith, (digit_from_value d h.0).0, e), digits_no c ds low h.1)

-- texts with different first bytes
first_byte : (a b : ℕ) (xs ys : List ℕ) → a ∷ xs ≡ b ∷ ys → a ≡ b
first_byte a b xs ys e = cc

d_not_h : (xs ys : List ℕ) → codes "d " ++ xs ≡ codes "h " ++ ys → ⊥
d_not_h xs ys e = let same : ◌≡◌ {A = ℕ} 100 104 = first_byte 100 104 (32 ∷ xs) (32 ∷ ys) e in omega arith

pub no_space : (rest : List ℕ) → HasNo 32 rest → (e : Event) → IsEvent e (codes "d " ++ rest) → ⊥
no_space rest h (Dispatch pid count) (p, n, wp, wn, e) = no_cut 32 rest p n h (cc)
no_space rest h Interrupt e = cc
no_space rest h (Hands count) (n, wn, e) = d_not_h rest n e
no_space rest h Swapper e = cc
no_space rest h Audit e = cc

-- the two numbers of a dispatch
pub two_words : (rest a b p n : List ℕ) (pid : ℕ) → rest ≡ a ++ 32 ∷ b → HasNo 32 a → Writes LAST_PROCESS p pid → rest ≡ p ++ 32 ∷ n → (a ≡ p) × (b ≡ n)
two_words rest a b p n pid e h w k = cut_once 32 a p b n h (digits_no 32 p (lit< tt) w.0.1) (sym e ∙ k)

pub bad_pid : (rest a b : List ℕ) → rest ≡ a ++ 32 ∷ b → HasNo 32 a → ((n : ℕ) → n < 2 ^ 32 → Writes LAST_PROCESS a n → ⊥) → (e : Event)
    → IsEvent e (codes "d " ++ rest) → ⊥
bad_pid rest a b cut h none (Dispatch pid count) (p, n, wp, wn, e) =
    let same : (a ≡ p) × (b ≡ n) = two_words rest a b p n pid cut h wp (cc) in
    none pid (omega (arith, wp.4)) (subst (λ (ds : List ℕ). Writes LAST_PROCESS ds pid) (sym same.0) wp)
bad_pid rest a b cut h none Interrupt e = cc
bad_pid rest a b cut h none (Hands count) (n, wn, e) = d_not_h rest n e
bad_pid rest a b cut h none Swapper e = cc
bad_pid rest a b cut h none Audit e = cc

pub bad_count : (rest a b : List ℕ) → rest ≡ a ++ 32 ∷ b → HasNo 32 a → ((n : ℕ) → n < 2 ^ 32 → Writes MOST_TURN b n → ⊥) → (e : Event)
    → IsEvent e (codes "d " ++ rest) → ⊥
bad_count rest a b cut h none (Dispatch pid count) (p, n, wp, wn, e) =
    let same : (a ≡ p) × (b ≡ n) = two_words rest a b p n pid cut h wp (cc) in
    none count (omega (arith, wn.4)) (subst (λ (ds : List ℕ). Writes MOST_TURN ds count) (sym same.1) wn)
bad_count rest a b cut h none Interrupt e = cc
bad_count rest a b cut h none (Hands count) (n, wn, e) = d_not_h rest n e
bad_count rest a b cut h none Swapper e = cc
bad_count rest a b cut h none Audit e = cc

pub bad_hands : (rest : List ℕ) → ((n : ℕ) → n < 2 ^ 32 → Writes MOST_MOVES rest n → ⊥) → (e : Event) → IsEvent e (codes "h " ++ rest) → ⊥
bad_hands rest none (Dispatch pid count) (p, n, wp, wn, e) = d_not_h (p ++ (codes " " ++ n)) rest (sym e)
bad_hands rest none Interrupt e = cc
bad_hands rest none (Hands count) (n, wn, e) =
    let same : n ≡ rest = cc in
    none count (omega (arith, wn.4)) (subst (λ (ds : List ℕ). Writes MOST_MOVES ds count) same wn)
bad_hands rest none Swapper e = cc
bad_hands rest none Audit e = cc

-- a text that is none of the three letters and has neither beginning
pub no_event : (text : List ℕ) → text ≢ codes "i" → text ≢ codes "w" → text ≢ codes "m" → ((rest : List ℕ) → text ≢ codes "d " ++ rest)
    → ((rest : List ℕ) → text ≢ codes "h " ++ rest) → (e : Event) → IsEvent e text → ⊥
no_event text i w m d h (Dispatch pid count) (p, n, wp, wn, e) = d (p ++ (codes " " ++ n)) e
no_event text i w m d h Interrupt e = i e
no_event text i w m d h (Hands count) (n, wn, e) = h n e
no_event text i w m d h Swapper e = w e
no_event text i w m d h Audit e = m e

-- the events of lines are within their ranges
in_ranges : (e : Event) (text : List ℕ) → IsEvent e text → IsInRanges e
in_ranges (Dispatch pid count) text (p, n, wp, wn, e) = (wp.3, wn.3, wn.4)
in_ranges Interrupt text h = tt
in_ranges (Hands count) text (n, wn, e) = (wn.3, wn.4)
in_ranges Swapper text h = tt
in_ranges Audit text h = tt

pub all_in_ranges : (es : List Event) (ls : List (List ℕ)) → AreLines IsEventLine es ls → (k : ℕ) (d : Event) → k < length es → IsInRanges (get_or es k d)
all_in_ranges [] ls h k d in_list = absurd (omega arith)
all_in_ranges (e ∷ es) [] h k d in_list = absurd h
all_in_ranges (e ∷ es) (l ∷ ls) h zero d in_list = in_ranges e h.0.0 h.0.2
all_in_ranges (e ∷ es) (l ∷ ls) h (suc k) d in_list = all_in_ranges es ls h.1 k d (omega arith)
