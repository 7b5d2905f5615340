-- The sifts put a row in order, seen from the hole. The moved value x is also what a read past the end gives.
use Rattle.std.proofs.Common.{◌≡◌, ℕ, zero, suc, ◌+◌, ◌*◌, ◌/◌, ◌<◌, ◌≤◌, true, false, List, length, get_or, set, Ordering, arith, length-set, get_or-set_other, get_or-set_same}
use Rattle.std.proofs.lemmas.Bool.Decides.{nat_tests}
use Rattle.elements.specs.Orders.{exceeds, below, Lawful}
use Rattle.rows.specs.Sifts.{Sifted, parent, rise, greater_child, sink}
use Rattle.rows.proofs.Holes.{Edge, Written, Ordered, Gap, Over, Under, fills, refill, climbs, climbs_over, sinks, sinks_under}
use Rattle.rows.proofs.Comparisons.{Le, le_self, le_if_below, le_if_exceeds, le_unless_below}

module _ {X : Type 0} (x : X) where
  abbrev pub look : List X → ℕ → X
  look xs k = get_or xs k x

  pub writes : (xs : List X) (h : ℕ) (v : X) → h < length xs → Written (look xs) (look (set xs h v)) h v
  writes xs h v l = record { here = get_or-set_same xs h v x l; else = λ k ne. get_or-set_other xs h k v x ne }

module _ {X : Type 0} (ordering : X → X → Ordering) (x : X) where
  -- the chosen child is a child, and no other exceeds it
  pub record Chosen (low : ℕ) (xs : List X) (h c : ℕ) : Type 0 where
    pub edge : low ≤ h → Edge low (length xs) h c
    pub best : (k : ℕ) → Edge low (length xs) h k → Le ordering (look x xs k) (look x xs c)

  -- x was put back at a leaf, and the row is in order but for it
  pub record Landed (low n : ℕ) (r : Sifted X) : Type 0 where
    pub within : r.at < n
    pub leaf : n / 2 ≤ r.at
    pub here : look x r.row r.at ≡ x
    pub gap : Gap (Le ordering) low n (look x r.row) r.at

module _ {X : Type 0} (ordering : X → X → Ordering) (lawful : Lawful ordering) (x : X) where
  -- upwards to the front
  module _ (n : ℕ) where
    pub rises : (fuel : ℕ) (xs : List X) (h : ℕ) → h ≤ fuel → h < n → n ≤ length xs
        → Gap (Le ordering) 0 n (look x xs) h → Over (Le ordering) 0 n (look x xs) h x
        → Ordered (Le ordering) 0 n (look x (rise ordering fuel 0 x xs h).row)
    unfolding rise
    rises zero xs h f l len gap over = fills _ _ _ _ _ h x (writes x xs h x (omega arith)) gap over (λ p e. absurd (omega arith))
    rises (suc fuel) xs h f l len gap over =
        let y : X = get_or xs (parent h) x in
        let ys : List X = set xs h y in
        let stay = fills _ _ _ _ _ h x (writes x xs h x (omega arith)) gap over in
        let on = λ (a : 0 < h) (s : exceeds ordering x y ≡ true).
        let e : Edge 0 n (parent h) h = grind arith in
        let w = writes x xs h y (omega arith) in
        rises fuel ys (parent h) (omega arith) (omega arith) (simp length-set (omega arith))
        (climbs _ _ _ _ _ lawful.transitive h _ e w gap)
        (climbs_over _ _ _ _ _ lawful.transitive h _ e w gap x (le_if_exceeds ordering lawful x y s)) in
        grind (arith, nat_tests, stay, on)

  chosen : (low : ℕ) (xs : List X) (h : ℕ) → h < length xs / 2 → Chosen ordering x low xs h (greater_child ordering x xs h)
  chosen low xs h l = grind (arith, nat_tests, le_self ordering lawful, le_if_exceeds ordering lawful (look x xs (2 * h + 1)) (look x xs (2 * h + 2)))

  -- downwards, while a child exceeds x
  module _ (low : ℕ) where
    pub falls : (fuel : ℕ) (xs : List X) (h : ℕ) → length xs ≤ h + fuel → h < length xs → low ≤ h
        → Gap (Le ordering) low (length xs) (look x xs) h → Under (Le ordering) low (length xs) (look x xs) h x
        → Ordered (Le ordering) low (length xs) (look x (sink ordering (below ordering) fuel x xs h).row)
    unfolding sink
    falls zero xs h f l g gap under = absurd (omega arith)
    falls (suc fuel) xs h f l g gap under =
        let n : ℕ = length xs in
        let c : ℕ = greater_child ordering x xs h in
        let y : X = get_or xs c x in
        let ys : List X = set xs h y in
        let stay = λ (over : Over (Le ordering) low n (look x xs) h x). fills _ _ _ _ _ h x (writes x xs h x l) gap over under in
        let rest = λ (a : h < n / 2) (s : below ordering x y ≡ false). stay (λ k e. lawful.transitive (look x xs k) y x ((chosen low xs h a).best k e) (le_unless_below ordering lawful x y s)) in
        let on = λ (a : h < n / 2) (s : below ordering x y ≡ true).
        let ch = chosen low xs h a in
        let e = ch.edge g in
        let w = writes x xs h y l in
        let m : length ys ≡ n = length-set xs h y in
        rw m at (falls fuel ys c (omega arith) (omega arith) (omega arith)
        (rw m (sinks _ _ _ _ _ h c e w ch.best gap))
        (rw m (sinks_under (Le ordering) _ _ _ _ h c e w x (le_if_below ordering x y s)))) in
        grind (arith, nat_tests, stay, rest, on)

  -- down to a leaf, whatever x is
  module _ (low : ℕ) where
    pub lands : (fuel : ℕ) (xs : List X) (h : ℕ) → length xs ≤ h + fuel → h < length xs → low ≤ h
        → Gap (Le ordering) low (length xs) (look x xs) h → Landed ordering x low (length xs) (sink ordering (λ x child. true) fuel x xs h)
    unfolding sink
    lands zero xs h f l g gap = absurd (omega arith)
    lands (suc fuel) xs h f l g gap =
        let n : ℕ = length xs in
        let c : ℕ = greater_child ordering x xs h in
        let y : X = get_or xs c x in
        let ys : List X = set xs h y in
        let w = writes x xs h x l in
        let rest = refill _ _ _ _ _ h x w gap in
        let on = λ (a : h < n / 2).
        let ch = chosen low xs h a in
        let e = ch.edge g in
        let m : length ys ≡ n = length-set xs h y in
        rw m at (lands fuel ys c (omega arith) (omega arith) (omega arith)
        (rw m (sinks _ _ _ _ _ h c e (writes x xs h y l) ch.best gap))) in
        grind (arith, nat_tests, rest, on)
