-- The rule of the table, proved once over all its rows.
use Rattle.std.proofs.Common.{◌≡◌, ℕ, Bool, true, false, cond, List, [], ◌∷◌, Some, IsTrue, refl, subst, ap, sym, ◌∙◌, ◌&&◌, ◌==◌}
use Rattle.std.specs.Prelude.{find}
use Rattle.std.specs.List.{list_all}
use Rattle.std.proofs.lemmas.Bool.{eqb-true}
use Rattle.vax_code.specs.declared.table.Row.{Row}
use Rattle.vax_code.specs.Table.{all_rows, row_for, is_sound, is_rising}

-- what a search finds passes a test that all pass
pub found_passes : {X : Type 0} (wanted good : X → Bool) (xs : List X) (x : X) → IsTrue (list_all good xs) → find wanted xs ≡ Some x → IsTrue (good x)
found_passes wanted good [] y all h = absurd (cc)
found_passes {X = X} wanted good (x ∷ xs) y all h =
    let parts = and_true (good x) (list_all good xs) all in
    (elim (wanted x) as (λ (w : Bool). cond w (Some x) (find wanted xs) ≡ Some y → IsTrue (good y)) [
      | true ↦ λ e. let same : x ≡ y = cc in subst (λ (z : X). IsTrue (good z)) same parts.0
      | false ↦ λ e. found_passes wanted good xs y parts.1 e
    ]) h
  where
    and_true : (a b : Bool) → IsTrue (a && b) → IsTrue a × IsTrue b
    and_true true b h = (refl, h)
    and_true false b h = absurd (cc)

-- and it is what was sought
found_wanted : {X : Type 0} (wanted : X → Bool) (xs : List X) (x : X) → find wanted xs ≡ Some x → wanted x ≡ true
found_wanted wanted [] y h = absurd (cc)
found_wanted {X = X} wanted (x ∷ xs) y h =
    (elim (wanted x) as (λ (w : Bool). wanted x ≡ w → cond w (Some x) (find wanted xs) ≡ Some y → wanted y ≡ true) [
      | true ↦ λ is e. let same : x ≡ y = cc in ap wanted (sym same) ∙ is
      | false ↦ λ is e. found_wanted wanted xs y e
    ]) refl h

pub row_sound : (op : ℕ) (row : Row) → row_for op ≡ Some row → IsTrue (is_sound row)
unfolding row_for all_rows
row_sound op row h = found_passes (λ r. r.op == op) is_sound all_rows row refl h

pub row_of_op : (op : ℕ) (row : Row) → row_for op ≡ Some row → row.op ≡ op
unfolding row_for
row_of_op op row h = eqb-true row.op op (found_wanted (λ (r : Row). r.op == op) all_rows row h)

pub rows_rise : IsTrue (is_rising all_rows)
unfolding all_rows
rows_rise = refl
