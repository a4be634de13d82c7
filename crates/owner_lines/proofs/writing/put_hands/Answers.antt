-- The hands, and the line's end.
use Rattle.std.proofs.Common.{rules, ℕ, [], ◌∷◌, ◌++◌, codes, ap₂}
use Rattle.run_text.specs.Text.{parts}
use Rattle.run_text.proofs.Putting.{text_is, text_then, text_failed}
use Rattle.owner_lines.proofs.writing.put_hands.Goals as goal

pub returns-in_err-put_named : goal.returns-in_err-put_named
returns-in_err-put_named g c =
    let shown = ap₂ (λ (front back : ℕ). codes "hands" ++ parts (front ∷ back ∷ [])) c.hands-front.ensures.front c.hands-front.ensures.back in
    text_failed (text_is shown c.in_err-put_named.ensures) _ (search rules)

pub returns : goal.returns
returns g c =
    let shown = ap₂ (λ (front back : ℕ). codes "hands" ++ parts (front ∷ back ∷ [])) c.hands-front.ensures.front c.hands-front.ensures.back in
    text_then g.met.S.Sink.leads_through (text_is shown c.in_ok-put_named.ensures) c.put.ensures
