-- The transfer that has a frame.
use Rattle.std.proofs.Common.{◌≡◌, ℕ, suc, ◌+◌, ◌<◌, Bool, true, false, eqb, cond, ◌||◌, ◌==◌, List, [], ◌∷◌, ◌++◌, map, Some, refl, sym, ap, ◌∙◌, inl, inr, arith}
use Rattle.std.specs.Prelude.{slice_get}
use Rattle.std.specs.List.{list_any}
use Rattle.std.proofs.lemmas.Bool.{cases_Bool}
use Rattle.std.proofs.lemmas.Bool.Decides.{nat_tests}
use Rattle.vm_facts.specs.declared.page.Page.{Page}
use Rattle.vm_facts.specs.Lists.{times}
use Rattle.vm_facts.proofs.Lists.{times-append}
use Rattle.page_model.specs.Placement.{Errand, Part, Transfer, Moving, Placement, state_of, parts_of, flying, moving, moving_state}
use Rattle.page_model.specs.Ownership.{Each, IsMoving}
use Rattle.page_laws.proofs.Lists.Frames.{flying-append}
use Rattle.owner_lines.specs.Owners.{carrier_from}
use Rattle.owner_lines.proofs.Owning.{each_behind}
use Rattle.owner_lines.specs.Told.{HasPart}

-- no part is in the frame, or a page is
pub data Search (f : ℕ) (e : Errand) (xs : List Part) : Type 0 where
  Nowhere : list_any (λ (x : Part). x.frame == f) xs ≡ false → times f (flying (map (moving e) xs)) ≡ 0 → Search f e xs
  There : (q : Page) → list_any (λ (x : Part). x.frame == f) xs ≡ true → HasPart q f xs → Search f e xs

search_parts : (f : ℕ) (e : Errand) (xs : List Part) → Search f e xs
search_parts f e [] = Nowhere refl refl
search_parts f e (x ∷ xs) = elim (cases_Bool (eqb x.frame f)) [
  | inl hit ↦ There x.page (ap (λ (b : Bool). b || list_any (λ (y : Part). y.frame == f) xs) hit) (inl (refl, grind (arith, nat_tests)))
  | inr miss ↦ further miss (search_parts f e xs)
]
  where
    further : eqb x.frame f ≡ false → Search f e xs → Search f e (x ∷ xs)
    further miss (Nowhere none nobody) =
        Nowhere (ap (λ (b : Bool). b || list_any (λ (y : Part). y.frame == f) xs) miss ∙ none)
        (ap (λ (b : Bool). cond b 1 0 + times f (flying (map (moving e) xs))) miss ∙ (let n : 0 + times f (flying (map (moving e) xs)) ≡ 0 = omega (arith, nobody) in n))
    further miss (There q some part) = There q (ap (λ (b : Bool). b || list_any (λ (y : Part). y.frame == f) xs) miss ∙ some) (inr part)

-- the page that a transfer has in a frame is on its way
part_moves : (p : Placement) (f : ℕ) (e : Errand) (q : Page) (xs : List Part) (rest : List Moving) → Each (IsMoving p) (map (moving e) xs ++ rest)
    → HasPart q f xs → state_of p q ≡ moving_state e f
part_moves p f e q [] rest m h = absurd h
part_moves p f e q (x ∷ xs) rest m (inl h) = ap (state_of p) (sym h.0) ∙ m.0 ∙ ap (moving_state e) h.1
part_moves p f e q (x ∷ xs) rest m (inr h) = part_moves p f e q xs rest m.1 h

-- the transfer of these that has a frame, where the first of them has number n
pub record IsCarried (p : Placement) (n f : ℕ) (ts : List Transfer) : Type 0 where
  pub behind : ℕ
  pub transfer : Transfer
  pub page : Page
  pub number : carrier_from n f ts ≡ n + behind
  pub found : slice_get ts behind ≡ Some transfer
  pub part : HasPart page f transfer.parts
  pub state : state_of p page ≡ moving_state transfer.errand f

pub carried : (p : Placement) (n f : ℕ) (ts : List Transfer) → Each (IsMoving p) (parts_of ts) → 0 < times f (flying (parts_of ts)) → IsCarried p n f ts
carried p n f [] m h = absurd (omega arith)
carried p n f (t ∷ ts) m h = go (search_parts f t.errand t.parts) (carried p (n + 1) f ts (each_behind p t.errand t.parts (parts_of ts) m))
  where
    go : Search f t.errand t.parts → (0 < times f (flying (parts_of ts)) → IsCarried p (n + 1) f ts) → IsCarried p n f (t ∷ ts)
    go (Nowhere none nobody) more =
        let split = ap (times f) (flying-append (map (moving t.errand) t.parts) (parts_of ts)) ∙ times-append f (flying (map (moving t.errand) t.parts)) (flying (parts_of ts)) in
        let rest : IsCarried p (n + 1) f ts = more (omega (arith, split, nobody, h)) in
        let later = rest.number in
        record {
          behind = suc rest.behind;
          transfer = rest.transfer;
          page = rest.page;
          number = ap (λ (b : Bool). cond b n (carrier_from (n + 1) f ts)) none ∙ (let e : carrier_from (n + 1) f ts ≡ n + suc rest.behind = omega (arith, later) in e);
          found = rest.found;
          part = rest.part;
          state = rest.state;
        }
    go (There q some part) more = record {
      behind = 0;
      transfer = t;
      page = q;
      number = ap (λ (b : Bool). cond b n (carrier_from (n + 1) f ts)) some ∙ (let e : n ≡ n + 0 = omega arith in e);
      found = refl;
      part = part;
      state = part_moves p f t.errand q t.parts (parts_of ts) m part;
    }
