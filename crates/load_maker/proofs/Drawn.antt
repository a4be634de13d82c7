-- One more number of the generator, and one more line.
use Rattle.std.proofs.Common.{◌≡◌, ◌+◌, ℕ, suc, List, [], ◌∷◌, ◌++◌, map, sym, ap, ◌∙◌, arith}
use Rattle.std.specs.List.{range_with_len}
use Rattle.std.proofs.lemmas.List.FromFn.{map-range_with_len_more}
use Rattle.vm_facts.specs.declared.event.Event.{Event}
use Rattle.load_maker.specs.Load.{drawn_after, drawn, line_drawn}

pub drawn_more : (seed k x : ℕ) → x ≡ drawn seed k → drawn_after x ≡ drawn seed (k + 1)
drawn_more seed k x e =
    let one : suc k ≡ k + 1 = omega arith in
    ap drawn_after e ∙ ap (drawn seed) one

pub lines_more : (seed k x : ℕ) (lines longer : List Event) (line : Event) → x ≡ drawn seed (k + 1) → line ≡ line_drawn x → longer ≡ lines ++ line ∷ []
    → lines ≡ map (λ n. line_drawn (drawn seed n)) (range_with_len 1 k) → longer ≡ map (λ n. line_drawn (drawn seed n)) (range_with_len 1 (k + 1))
lines_more seed k x lines longer line e is pushed h =
    let more = map-range_with_len_more (λ (n : ℕ). line_drawn (drawn seed n)) 1 k (k + 1) (omega arith) in
    pushed
    ∙ ap (λ (l : List Event). l ++ line ∷ []) h
    ∙ ap (λ (e : Event). map (λ (n : ℕ). line_drawn (drawn seed n)) (range_with_len 1 k) ++ e ∷ []) (is ∙ ap line_drawn e)
    ∙ sym more
