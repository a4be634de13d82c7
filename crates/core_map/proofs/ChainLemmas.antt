-- What walks along hash chains find, and what writes do to them.
use Rattle.std.proofs.Common.{◌≡◌, ◌≢◌, ℕ, ◌+◌, ◌<◌, ◌≤◌, ◌⊎◌, List, [], ◌∷◌, ◌++◌, length, set, get_or-set_same, get_or-set_other, length-set, slice_index, refl, sym, ap, subst, ◌∙◌, inl, inr, arith, Option, Some, None}
use Rattle.std.proofs.lemmas.Bool.{cases_eq, cases_lt}
use Rattle.std.proofs.lemmas.Bool.Decides.{nat_tests}
use Rattle.std.proofs.lemmas.List.{get_or_past}
use Rattle.std.proofs.lemmas.Option.{none-some}
use Rattle.core_map.specs.declared.text_index.TextKey.{TextKey}
use Rattle.vm_facts.specs.Lists.{times}
use Rattle.core_map.specs.Chains.{bucket_of, key_at, listings_in, Way, Leads, IsChain, IsIndexed, IsOnWay, IsBefore}
use Rattle.core_map.proofs.OrderLemmas.{length_apart}
use Rattle.vm_facts.proofs.Lists.{times-append, times_head, times_other}

abbrev Keys : Type 0
Keys = List (Option TextKey)

pub listings_le : (n : ℕ) (b : ℕ) (o : Option TextKey) → listings_in n b o ≤ 1
listings_le n b None = omega arith
listings_le n b (Some key) = grind (arith, nat_tests)

pub listings_own : (n : ℕ) (key : TextKey) → listings_in n (bucket_of n key) (Some key) ≡ 1
listings_own n key = grind (arith, nat_tests)

-- a frame is in one chain only
pub listings_one : (n : ℕ) (b c : ℕ) (o : Option TextKey) → 0 < listings_in n b o → 0 < listings_in n c o → b ≡ c
listings_one n b c None h k = absurd (omega arith)
listings_one n b c (Some key) h k = grind (arith, nat_tests)

-- and not in another
pub listings_apart : (n : ℕ) (b : ℕ) (key : TextKey) → (bucket_of n key ≡ b → ⊥) → listings_in n b (Some key) ≡ 0
listings_apart n b key h = grind (arith, nat_tests)

pub key_past : (keys : Keys) (f : ℕ) → length keys ≤ f → key_at keys f ≡ None
key_past keys f past = get_or_past keys f None past

-- a chain has frames in range, each once
pub chain_apart : (n : ℕ) (links : List ℕ) (keys : Keys) (b : ℕ) → (c : IsChain n links keys b) → (f : ℕ) → times f c.chain ≤ 1
chain_apart n links keys b c f = omega (arith, c.listed f, listings_le n b (key_at keys f))

pub chain_below : (n : ℕ) (links : List ℕ) (keys : Keys) (b : ℕ) → (c : IsChain n links keys b) → (f : ℕ) → length keys ≤ f → times f c.chain ≡ 0
chain_below n links keys b c f past = c.listed f ∙ ap (listings_in n b) (key_past keys f past)

pub chain_short : (n : ℕ) (links : List ℕ) (keys : Keys) (b : ℕ) → (c : IsChain n links keys b) → length c.chain ≤ length keys
chain_short n links keys b c = length_apart (length keys) c.chain (chain_apart n links keys b c) (chain_below n links keys b c)

pub times_tail : (k x : ℕ) (xs : List ℕ) → times k xs ≤ times k (x ∷ xs)
times_tail k x xs = omega arith

-- two ways by links that agree
pub way_agree : (links new : List ℕ) (a c : ℕ) (xs : List ℕ) → slice_index new c ≡ slice_index links a
    → ((k : ℕ) → 0 < times k xs → slice_index new k ≡ slice_index links k) → Way links a xs → Way new c xs
way_agree links new a c [] e agree w = e ∙ w
way_agree links new a c (x ∷ xs) e agree w = (
  e ∙ w.0,
  way_agree links new x x xs (agree x (omega (arith, times_head x xs))) (λ k h. agree k (omega (arith, times_tail k x xs))) w.1,
)

-- the frames that a look-up still has to see
pub record Rest (links : List ℕ) (keys : Keys) (key : TextKey) (at turn : ℕ) : Type 0 where
  pub from : ℕ
  pub rest : List ℕ
  pub here : at ≡ slice_index links from
  pub way : Way links from rest
  pub short : length rest + turn ≤ length keys
  pub no_zero : times 0 rest ≡ 0
  pub below : (f : ℕ) → length keys ≤ f → times f rest ≡ 0
  pub has : (f : ℕ) → key_at keys f ≡ Some key → 0 < times f rest

pub rest_start : (n : ℕ) (links : List ℕ) (keys : Keys) (key : TextKey) (at : ℕ) → IsIndexed n links keys → bucket_of n key < n
    → at ≡ slice_index links (length keys + bucket_of n key) → Rest links keys key at 0
rest_start n links keys key at i low e =
    let c = i.chains (bucket_of n key) low in
    record {
      from = length keys + bucket_of n key;
      rest = c.chain;
      here = e;
      way = c.way;
      short = omega (arith, chain_short n links keys (bucket_of n key) c);
      no_zero = c.listed 0 ∙ ap (listings_in n (bucket_of n key)) i.none;
      below = chain_below n links keys (bucket_of n key) c;
      has = λ f h. omega (arith, c.listed f, ap (listings_in n (bucket_of n key)) h, listings_own n key);
    }

rest_cases : (links : List ℕ) (a at : ℕ) (rest : List ℕ) → at ≡ slice_index links a → Way links a rest
    → ((rest ≡ []) × (at ≡ 0)) ⊎ ((xs : List ℕ) × (rest ≡ at ∷ xs) × Way links at xs)
rest_cases links a at [] e w = inl (refl, e ∙ w)
rest_cases links a at (x ∷ xs) e w =
    let same : at ≡ x = e ∙ w.0 in
    inr (xs, ap (λ (k : ℕ). k ∷ xs) (sym same), subst (λ (k : ℕ). Way links k xs) (sym same) w.1)

pub rest_done : (links : List ℕ) (keys : Keys) (key : TextKey) (at turn : ℕ) → Rest links keys key at turn → at ≡ 0 → (f : ℕ) → key_at keys f ≢ Some key
rest_done links keys key at turn r zero_at f h = elim (rest_cases links r.from at r.rest r.here r.way) [
  | inl (nil, e) ↦ omega (arith, r.has f h, ap (times f) nil)
  | inr (xs, e, w) ↦ omega (arith, r.no_zero, ap (times 0) e, subst (λ (k : ℕ). 0 < times k (at ∷ xs)) zero_at (omega (arith, times_head at xs)))
]

pub rest_low : (links : List ℕ) (keys : Keys) (key : TextKey) (at turn : ℕ) → Rest links keys key at turn → at ≢ 0 → at < length keys
rest_low links keys key at turn r ne = elim (rest_cases links r.from at r.rest r.here r.way) [
  | inl (nil, e) ↦ absurd (ne e)
  | inr (xs, e, w) ↦ elim (cases_lt at (length keys)) [
    | inl low ↦ low
    | inr past ↦ absurd (omega (arith, r.below at past, ap (times at) e, times_head at xs))
  ]
]

pub rest_step : (links : List ℕ) (keys : Keys) (key : TextKey) (at turn next : ℕ) → Rest links keys key at turn → at ≢ 0 → key_at keys at ≢ Some key
    → next ≡ slice_index links at → Rest links keys key next (turn + 1)
rest_step links keys key at turn next r ne other e = elim (rest_cases links r.from at r.rest r.here r.way) [
  | inl (nil, z) ↦ absurd (ne z)
  | inr (xs, same, w) ↦ record {
    from = at;
    rest = xs;
    here = e;
    way = w;
    short = omega (arith, r.short, ap length same);
    no_zero = omega (arith, r.no_zero, ap (times 0) same, times_tail 0 at xs);
    below = λ f h. omega (arith, r.below f h, ap (times f) same, times_tail f at xs);
    has = λ f h.
        let differs : at ≢ f = λ e2. other (ap (key_at keys) e2 ∙ h) in
        omega (arith, r.has f h, ap (times f) same, times_other f at xs differs);
  }
]

-- the step of a walk for the place before f
pub record Seek (links : List ℕ) (frames a f at turn : ℕ) : Type 0 where
  pub passed : List ℕ
  pub rest : List ℕ
  pub leads : Leads links a passed at
  pub passed_no_zero : times 0 passed ≡ 0
  pub way : Way links at rest
  pub short : length rest + turn ≤ frames
  pub no_zero : times 0 rest ≡ 0
  pub within : (g : ℕ) → frames ≤ g → times g rest ≡ 0
  pub on_way : 0 < times f rest
  pub at_low : at < length links
  pub enough : frames ≤ length links

pub seek_start : (links : List ℕ) (frames a f : ℕ) → IsOnWay links frames a f → Seek links frames a f a 0
seek_start links frames a f o = record {
  passed = [];
  rest = o.chain;
  leads = refl;
  passed_no_zero = refl;
  way = o.way;
  short = omega (arith, o.short);
  no_zero = o.no_zero;
  within = o.within;
  on_way = o.on_way;
  at_low = o.start_within;
  enough = o.enough;
}

leads_more : (links : List ℕ) (a : ℕ) (passed : List ℕ) (b x : ℕ) → Leads links a passed b → slice_index links b ≡ x → Leads links a (passed ++ x ∷ []) x
leads_more links a [] b x l e = (ap (slice_index links) l ∙ e, refl)
leads_more links a (y ∷ ys) b x l e = (l.0, leads_more links y ys b x l.1 e)

pub seek_step : (links : List ℕ) (frames a f at turn next : ℕ) → Seek links frames a f at turn → next ≡ slice_index links at → next ≢ f
    → Seek links frames a f next (turn + 1)
seek_step links frames a f at turn next s e ne = elim (rest_cases links at next s.rest e s.way) [
  | inl (nil, z) ↦ absurd (omega (arith, s.on_way, ap (times f) nil))
  | inr (xs, same, w) ↦
      let one : times 0 (next ∷ []) ≡ 0 = omega (arith, s.no_zero, ap (times 0) same) in
      let low : next < frames = elim (cases_lt next frames) [
        | inl h ↦ h
        | inr past ↦ absurd (omega (arith, s.within next past, ap (times next) same, times_head next xs))
      ] in
      record {
        passed = s.passed ++ next ∷ [];
        rest = xs;
        leads = leads_more links a s.passed at next s.leads (sym e);
        passed_no_zero = omega (arith, times-append 0 s.passed (next ∷ []), s.passed_no_zero, one);
        way = w;
        short = omega (arith, s.short, ap length same);
        no_zero = omega (arith, s.no_zero, ap (times 0) same, times_tail 0 next xs);
        within = λ g h. omega (arith, s.within g h, ap (times g) same, times_tail g next xs);
        on_way = omega (arith, s.on_way, ap (times f) same, times_other f next xs ne);
        at_low = omega (arith, s.enough);
        enough = s.enough;
      }
]

-- the first numbers of a way
pub leads_prefix : (links : List ℕ) (a : ℕ) (chain passed : List ℕ) (p : ℕ) → Way links a chain → Leads links a passed p → times 0 passed ≡ 0
    → (post : List ℕ) × (chain ≡ passed ++ post) × Way links p post
leads_prefix links a chain [] p w l z = (chain, refl, subst (λ (k : ℕ). Way links k chain) l w)
leads_prefix links a [] (x ∷ xs) p w l z = absurd (omega (arith, z, subst (λ (k : ℕ). 0 < times k (x ∷ xs)) (sym l.0 ∙ w) (omega (arith, times_head x xs))))
leads_prefix links a (y ∷ ys) (x ∷ xs) p w l z =
    let same : x ≡ y = sym l.0 ∙ w.0 in
    let w' : Way links x ys = subst (λ (k : ℕ). Way links k ys) (sym same) w.1 in
    let more = leads_prefix links x ys xs p w' l.1 (omega (arith, z, times_tail 0 x xs)) in
    (more.0, ap (λ (k : ℕ). k ∷ ys) (sym same) ∙ ap (λ (k : List ℕ). x ∷ k) more.1, more.2)

pub leads_end : (links : List ℕ) (a : ℕ) (passed : List ℕ) (p : ℕ) → Leads links a passed p → 0 < times p (a ∷ passed)
leads_end links a [] p l = subst (λ (k : ℕ). 0 < times k (a ∷ [])) l (omega (arith, times_head a []))
leads_end links a (x ∷ xs) p l = omega (arith, leads_end links x xs p l.1, times_tail p a (x ∷ xs))

-- a chain without one of its frames
pub unlink : (links : List ℕ) (a : ℕ) (passed : List ℕ) (p f : ℕ) (zs : List ℕ) → Leads links a passed p → Way links f zs
    → ((k : ℕ) → times k (a ∷ passed) + times k zs ≤ 1) → p < length links
    → Way (set links p (slice_index links f)) a (passed ++ zs)
unlink links a [] p f zs l w apart low =
    let here : slice_index (set links p (slice_index links f)) a ≡ slice_index links f =
    subst (λ (k : ℕ). slice_index (set links p (slice_index links f)) k ≡ slice_index links f) (sym l) (get_or-set_same links p (slice_index links f) 0 low) in
    way_agree links (set links p (slice_index links f)) f a zs here
    (λ k h. let ne : k ≢ p = λ e. omega (arith, apart k, subst (λ (j : ℕ). 0 < times j (a ∷ [])) (l ∙ sym e) (omega (arith, times_head a []))) in get_or-set_other links p k (slice_index links f) 0 ne)
    w
unlink links a (x ∷ xs) p f zs l w apart low =
    let later = leads_end links x xs p l.1 in
    let ne : a ≢ p = λ e. omega (arith, apart p, later, subst (λ (k : ℕ). times k (a ∷ x ∷ xs) ≡ 1 + times k (x ∷ xs)) e (times_head a (x ∷ xs))) in (
      get_or-set_other links p a (slice_index links f) 0 ne ∙ l.0,
      unlink links x xs p f zs l.1 w (λ k. omega (arith, apart k, times_tail k a (x ∷ xs))) low,
    )

-- what the keys of the other frames say is kept by a write of one key
key_other : (keys : Keys) (f g : ℕ) (o : Option TextKey) → g ≢ f → key_at (set keys f o) g ≡ key_at keys g
key_other keys f g o ne = get_or-set_other keys f g o None ne

-- chain b after frame f came to the front of the chain of its key
add_chain : (n : ℕ) (links : List ℕ) (keys : Keys) (f first start : ℕ) (key : TextKey) → IsIndexed n links keys → 0 < f → f < length keys
    → key_at keys f ≡ None → bucket_of n key < n
    → start ≡ length keys + bucket_of n key → first ≡ slice_index links start → (b : ℕ) → b < n
    → IsChain n (set (set links f first) start f) (set keys f (Some key)) b
add_chain n links keys f first start key i positive low free bucket_low es ef b b_low =
    let old = i.chains b b_low in
    let new = set (set links f first) start f in
    let ll = i.links_length in
    let f_in : f < length links = omega arith in
    let start_in : start < length (set links f first) = omega (arith, length-set links f first) in
    let f_ne : f ≢ start = omega arith in
    let at_f : slice_index new f ≡ first = get_or-set_other (set links f first) start f f 0 f_ne ∙ get_or-set_same links f first 0 f_in in
    let at_start : slice_index new start ≡ f = get_or-set_same (set links f first) start f 0 start_in in
    let off : times f old.chain ≡ 0 = old.listed f ∙ ap (listings_in n b) free in
    let agree : (k : ℕ) → k ≢ f → k ≢ start → slice_index new k ≡ slice_index links k = λ k nf ns. get_or-set_other (set links f first) start k f 0 ns ∙ get_or-set_other links f k first 0 nf in
    let on_chain : (k : ℕ) → 0 < times k old.chain → slice_index new k ≡ slice_index links k = λ k h. agree k
    (λ e. omega (arith, h, off, ap (λ (j : ℕ). times j old.chain) e))
    (λ e. omega (arith, h, chain_below n links keys b old k (omega arith))) in
    let key_f : key_at (set keys f (Some key)) f ≡ Some key = get_or-set_same keys f (Some key) None low in
    let long : length (set keys f (Some key)) ≡ length keys = length-set keys f (Some key) in
    elim (cases_eq (bucket_of n key) b) [
      | inl same ↦ record {
        chain = f ∷ old.chain;
        way = (
          ap (λ (k : ℕ). slice_index new k) (ap (λ (k : ℕ). k + b) long ∙ sym (es ∙ ap (λ (k : ℕ). length keys + k) same)) ∙ at_start,
          way_agree links new (length keys + b) f old.chain (at_f ∙ ef ∙ ap (slice_index links) (es ∙ ap (λ (k : ℕ). length keys + k) same)) on_chain old.way,
        );
        listed = λ g. elim (cases_eq g f) [
          | inl e ↦ subst (λ (k : ℕ). times k (f ∷ old.chain) ≡ listings_in n b (key_at (set keys f (Some key)) k)) (sym e)
              (omega (arith, times_head f old.chain, off, ap (listings_in n b) key_f, ap (λ (k : ℕ). listings_in n k (Some key)) same, listings_own n key))
          | inr ne ↦ times_other g f old.chain (λ e. ne (sym e)) ∙ old.listed g ∙ sym (ap (listings_in n b) (key_other keys f g (Some key) ne))
        ];
      }
      | inr differs ↦ record {
        chain = old.chain;
        way = subst (λ (k : ℕ). Way new (k + b) old.chain) (sym long)
            (way_agree links new (length keys + b) (length keys + b) old.chain (agree (length keys + b) (omega arith) (omega arith)) on_chain old.way);
        listed = λ g. elim (cases_eq g f) [
          | inl e ↦ subst (λ (k : ℕ). times k old.chain ≡ listings_in n b (key_at (set keys f (Some key)) k)) (sym e)
              (off ∙ sym (ap (listings_in n b) key_f ∙ listings_apart n b key differs))
          | inr ne ↦ old.listed g ∙ sym (ap (listings_in n b) (key_other keys f g (Some key) ne))
        ];
      }
    ]

pub add_indexed : (n : ℕ) (links : List ℕ) (keys : Keys) (f first start : ℕ) (key : TextKey) → IsIndexed n links keys → 0 < f → f < length keys
    → key_at keys f ≡ None → bucket_of n key < n
    → start ≡ length keys + bucket_of n key → first ≡ slice_index links start → IsIndexed n (set (set links f first) start f) (set keys f (Some key))
add_indexed n links keys f first start key i positive low free bucket_low es ef = record {
  has_none = omega (arith, i.has_none, length-set keys f (Some key));
  small = omega (arith, i.small, length-set keys f (Some key));
  some = i.some;
  links_length = omega (arith, i.links_length, length-set keys f (Some key), length-set (set links f first) start f, length-set links f first);
  none = let ne : 0 ≢ f = omega arith in key_other keys f 0 (Some key) ne ∙ i.none;
  chains = add_chain n links keys f first start key i positive low free bucket_low es ef;
}

-- the way to a frame with a key, from the head of its chain
pub on_way : (n : ℕ) (links : List ℕ) (keys : Keys) (f start : ℕ) (key : TextKey) → IsIndexed n links keys → key_at keys f ≡ Some key
    → bucket_of n key < n → start ≡ length keys + bucket_of n key → IsOnWay links (length keys) start f
on_way n links keys f start key i e bucket_low es =
    let c = i.chains (bucket_of n key) bucket_low in
    record {
      chain = c.chain;
      way = subst (λ (k : ℕ). Way links k c.chain) (sym es) c.way;
      start_within = omega (arith, i.links_length);
      enough = omega (arith, i.links_length);
      short = chain_short n links keys (bucket_of n key) c;
      within = chain_below n links keys (bucket_of n key) c;
      no_zero = c.listed 0 ∙ ap (listings_in n (bucket_of n key)) i.none;
      on_way = omega (arith, c.listed f, ap (listings_in n (bucket_of n key)) e, listings_own n key);
    }

-- the chain of f is what stands before it, f, and what stands after it
chain_at : (n : ℕ) (links : List ℕ) (keys : Keys) (f p start : ℕ) (key : TextKey) → (i : IsIndexed n links keys) → f ≢ 0 → (low : bucket_of n key < n)
    → start ≡ length keys + bucket_of n key
    → (w : IsBefore links start f p) → (zs : List ℕ) × ((i.chains (bucket_of n key) low).chain ≡ w.passed ++ f ∷ zs) × Way links f zs
chain_at n links keys f p start key i positive low es w =
    let c = i.chains (bucket_of n key) low in
    let way : Way links start c.chain = subst (λ (k : ℕ). Way links k c.chain) (sym es) c.way in
    let parts = leads_prefix links start c.chain w.passed p way w.leads w.no_zero in
    elim (rest_cases links p f parts.0 (sym w.next) parts.2) [
      | inl (nil, z) ↦ absurd (positive z)
      | inr (zs, same, after) ↦ (zs, parts.1 ∙ ap (λ (k : List ℕ). w.passed ++ k) same, after)
    ]

-- chain b after frame f left the chain of its key
remove_chain : (n : ℕ) (links : List ℕ) (keys : Keys) (f p after start : ℕ) (key : TextKey) → IsIndexed n links keys → key_at keys f ≡ Some key
    → (low : bucket_of n key < n)
    → start ≡ length keys + bucket_of n key → IsBefore links start f p → p < length links → after ≡ slice_index links f → f < length keys → f ≢ 0 → (b : ℕ)
    → b < n → IsChain n (set links p after) (set keys f None) b
remove_chain n links keys f p after start key i e low es w p_low ea f_low f_ne b b_low =
    let own = i.chains (bucket_of n key) low in
    let old = i.chains b b_low in
    let parts = chain_at n links keys f p start key i f_ne low es w in
    let zs = parts.0 in
    let split : (k : ℕ) → times k own.chain ≡ times k w.passed + times k (f ∷ zs) = λ k. ap (times k) parts.1 ∙ times-append k w.passed (f ∷ zs) in
    let new = set links p after in
    let key_f : key_at (set keys f None) f ≡ None = get_or-set_same keys f None None f_low in
    let long : length (set keys f None) ≡ length keys = length-set keys f None in
    let f_own : times f own.chain ≡ 1 = own.listed f ∙ ap (listings_in n (bucket_of n key)) e ∙ listings_own n key in
    let apart : (k : ℕ) → times k (start ∷ w.passed) + times k zs ≤ 1 = λ k. elim (cases_eq start k) [
      | inl es2 ↦ subst (λ (j : ℕ). times j (start ∷ w.passed) + times j zs ≤ 1) es2
          (omega (arith, times_head start w.passed, split start, times_tail start f zs, chain_below n links keys (bucket_of n key) own start (omega arith)))
      | inr ne ↦ omega (arith, times_other k start w.passed ne, split k, times_tail k f zs, chain_apart n links keys (bucket_of n key) own k)
    ] in
    let p_on = leads_end links start w.passed p w.leads in
    elim (cases_eq (bucket_of n key) b) [
      | inl same ↦ record {
        chain = w.passed ++ zs;
        way =
            let from_start : Way (set links p (slice_index links f)) start (w.passed ++ zs) = unlink links start w.passed p f zs w.leads parts.2 apart p_low in
            let here : start ≡ length (set keys f None) + b = es ∙ ap (λ (k : ℕ). length keys + k) same ∙ sym (ap (λ (k : ℕ). k + b) long) in
            subst (λ (k : ℕ). Way new k (w.passed ++ zs)) here (subst (λ (k : ℕ). Way (set links p k) start (w.passed ++ zs)) (sym ea) from_start);
        listed = λ g. elim (cases_eq g f) [
          | inl eg ↦ subst (λ (k : ℕ). times k (w.passed ++ zs) ≡ listings_in n b (key_at (set keys f None) k)) (sym eg)
              (omega (arith, times-append f w.passed zs, split f, times_head f zs, f_own) ∙ sym (ap (listings_in n b) key_f))
          | inr ne ↦
              let count : times g (w.passed ++ zs) ≡ times g own.chain = omega (arith, times-append g w.passed zs, split g, times_other g f zs (λ eg. ne (sym eg))) in
              count ∙ own.listed g ∙ ap (λ (k : ℕ). listings_in n k (key_at keys g)) same ∙ sym (ap (listings_in n b) (key_other keys f g None ne))
        ];
      }
      | inr differs ↦
          let p_key : p ≢ start → 0 < listings_in n (bucket_of n key) (key_at keys p) = λ ne. omega (arith, own.listed p, split p, p_on, times_other p start w.passed (λ eg. ne (sym eg))) in
          let not_p : (k : ℕ) → 0 < times k old.chain → k ≢ p = λ k h ek.
          let p_in : 0 < times p old.chain = subst (λ (j : ℕ). 0 < times j old.chain) ek h in
          let ne : p ≢ start = λ eg. omega (arith, chain_below n links keys b old p (omega arith), p_in) in
          differs (listings_one n (bucket_of n key) b (key_at keys p) (p_key ne) (omega (arith, old.listed p, p_in))) in
          let start_b : length keys + b ≢ p = λ ek. elim (cases_eq p start) [
            | inl eg ↦ differs (omega (arith, ek, eg, es))
            | inr ne ↦ omega (arith, p_on, split p, times_other p start w.passed (λ eg. ne (sym eg)), chain_below n links keys (bucket_of n key) own p (omega (arith, ek)))
          ] in
          record {
            chain = old.chain;
            way = subst (λ (k : ℕ). Way new (k + b) old.chain) (sym long)
                (way_agree links new (length keys + b) (length keys + b) old.chain (get_or-set_other links p (length keys + b) after 0 start_b)
                (λ k h. get_or-set_other links p k after 0 (not_p k h)) old.way);
            listed = λ g. elim (cases_eq g f) [
              | inl eg ↦ subst (λ (k : ℕ). times k old.chain ≡ listings_in n b (key_at (set keys f None) k)) (sym eg)
                  (old.listed f ∙ ap (listings_in n b) e ∙ listings_apart n b key differs ∙ sym (ap (listings_in n b) key_f))
              | inr ne ↦ old.listed g ∙ sym (ap (listings_in n b) (key_other keys f g None ne))
            ];
          }
    ]

pub keyed_below : (keys : Keys) (f : ℕ) (key : TextKey) → key_at keys f ≡ Some key → f < length keys
keyed_below keys f key e = elim (cases_lt f (length keys)) [
  | inl low ↦ low
  | inr past ↦ absurd (none-some key (sym (key_past keys f past) ∙ e))
]

pub remove_indexed : (n : ℕ) (links : List ℕ) (keys : Keys) (f p after start : ℕ) (key : TextKey) → IsIndexed n links keys → key_at keys f ≡ Some key
    → bucket_of n key < n
    → start ≡ length keys + bucket_of n key → IsBefore links start f p → p < length links → after ≡ slice_index links f
    → IsIndexed n (set links p after) (set keys f None)
remove_indexed n links keys f p after start key i e low es w p_low ea =
    let f_low = keyed_below keys f key e in
    let f_ne : f ≢ 0 = λ z. none-some key (sym i.none ∙ ap (key_at keys) (sym z) ∙ e) in
    record {
      has_none = omega (arith, i.has_none, length-set keys f None);
      small = omega (arith, i.small, length-set keys f None);
      some = i.some;
      links_length = omega (arith, i.links_length, length-set keys f None, length-set links p after);
      none = let ne : 0 ≢ f = λ z. f_ne (sym z) in key_other keys f 0 None ne ∙ i.none;
      chains = remove_chain n links keys f p after start key i e low es w p_low ea f_low f_ne;
    }
