-- The victims of a plan rise: each leaves at its reference, in turn.
use Rattle.std.proofs.Common.{◌≡◌, ℕ, ◌+◌, ◌<◌, ◌≤◌, Bool, true, false, List, [], ◌∷◌, length, drop, Option, Some, None, refl, sym, ap, ◌∙◌, subst, arith, inl, inr, ◌⊎◌}
use Rattle.std.specs.Prelude.{◌==◌, is_some}
use Rattle.std.proofs.lemmas.Bool.{eqb-true, false≢true}
use Rattle.std.proofs.lemmas.Option.{cond_some}
use Rattle.page_opt.specs.declared.Victim.{Victim}
use Rattle.page_opt.specs.Plans.{Run, has, due, left, entered, then, served, serve, runs, all_left, faults_of, plan_faults, IsPlan, Rises}
use Rattle.page_opt.proofs.Served.{with_page, entered_gives, left_gives, runs_none}

rises_sooner : (from later end : ℕ) (vs : List Victim) → from ≤ later → Rises later vs end → Rises from vs end
rises_sooner from later end [] l r = tt
rises_sooner from later end (v ∷ vs) l r = (let a = r.0 in omega arith, r.1, r.2)

-- the victims stay, or the first of them was due
Used : ℕ → Run → Run → Type 0
Used at c d = (d.victims ≡ c.victims) ⊎ ((v : Victim) × (c.victims ≡ v ∷ d.victims) × (v.at ≡ at))

entered_keeps : (n p : ℕ) (m d : Run) → entered n p m ≡ Some d → d.victims ≡ m.victims
unfolding with_page
entered_keeps n p m d e = sym (ap (λ (r : Run). r.victims) (entered_gives n p m d e).1)

due_is_first : (at v : ℕ) (victims : List Victim) → due at victims ≡ Some v → (w : Victim) × (victims ≡ w ∷ drop 1 victims) × (w.at ≡ at)
unfolding due
due_is_first at v [] e = cc
due_is_first at v (w ∷ ws) e = (w, refl, eqb-true w.at at (cond_some (w.at == at) w.page v e).0)

served_uses : (n at p : ℕ) (h : Bool) (o : Option ℕ) (c d : Run) → due at c.victims ≡ o → served n p h o c ≡ Some d → Used at c d
unfolding served then Used
served_uses n at p true None c d e s = let same : c ≡ d = cc in inl (sym (ap (λ (r : Run). r.victims) same))
served_uses n at p true (Some v) c d e s = cc
served_uses n at p false None c d e s = inl (entered_keeps n p c d s)
served_uses n at p false (Some v) c d e s = go (left v c) refl s
  where
    go : (o : Option Run) → left v c ≡ o → then (entered n p) o ≡ Some d → (d.victims ≡ c.victims) ⊎ ((v : Victim) × (c.victims ≡ v ∷ d.victims) × (v.at ≡ at))
    go None l s = cc
    go (Some m) l s =
        let first = due_is_first at v c.victims e in
        let rest : drop 1 c.victims ≡ d.victims = ap (λ (r : Run). r.victims) (left_gives v c m l).1 ∙ sym (entered_keeps n p m d s) in
        inr (first.0, first.1 ∙ ap (λ (vs : List Victim). first.0 ∷ vs) rest, first.2)

used_rises : (at end : ℕ) (c d : Run) → at < end → Used at c d → Rises (at + 1) d.victims end → Rises at c.victims end
unfolding Used
used_rises at end c d l (inl same) r =
    rises_sooner at (at + 1) end c.victims (omega arith) (subst (λ (vs : List Victim). Rises (at + 1) vs end) same r)
used_rises at end c d l (inr first) r =
    let here = first.2 in
    subst (λ (vs : List Victim). Rises at vs end) (sym first.1)
    (omega arith, omega arith, subst (λ (k : ℕ). Rises (k + 1) d.victims end) (sym here) r)

runs_rise : (n at : ℕ) (ps : List ℕ) (c d : Run) (end : ℕ) → runs n at ps (Some c) ≡ Some d → d.victims ≡ [] → at + length ps ≤ end → Rises at c.victims end
unfolding runs then serve
runs_rise n at [] c d end e none l =
    let same : c ≡ d = cc in
    subst (λ (vs : List Victim). Rises at vs end) (sym (ap (λ (r : Run). r.victims) same ∙ none)) tt
runs_rise n at (p ∷ ps) c d end e none l =
    go (serve n at p c) refl e (λ m f. runs_rise n (at + 1) ps m d end f none (omega arith))
  where
    go : (o : Option Run) → serve n at p c ≡ o → runs n (at + 1) ps o ≡ Some d → ((m : Run) → runs n (at + 1) ps (Some m) ≡ Some d → Rises (at + 1) m.victims end) → Rises at c.victims end
    go None s e rest = let stays = runs_none n (at + 1) ps in cc
    go (Some m) s e rest =
        used_rises at end c m (omega arith) (served_uses n at p (has p c.cache) (due at c.victims) c m refl s) (rest m e)

pub plan_rises : (refs : List ℕ) (n : ℕ) (victims : List Victim) → IsPlan refs n victims → Rises 1 victims (length refs + 1)
unfolding plan_faults faults_of all_left
plan_rises refs n victims plan = go (runs n 1 refs (Some (record { cache = []; victims = victims; faults = 0 }))) refl plan
  where
    none_over : (vs : List Victim) (m : ℕ) → is_some (all_left vs m) ≡ true → vs ≡ []
    none_over [] m e = refl
    none_over (v ∷ vs) m e = absurd (false≢true e)

    go : (o : Option Run) → runs n 1 refs (Some (record { cache = []; victims = victims; faults = 0 })) ≡ o → is_some (faults_of o) ≡ true → Rises 1 victims (length refs + 1)
    go None e h = absurd (false≢true h)
    go (Some d) e h = runs_rise n 1 refs (record { cache = []; victims = victims; faults = 0 }) d (length refs + 1) e (none_over d.victims d.faults h) (omega arith)
