-- The ids above an id, and those on the way down to it, one step at a time.
use Rattle.std.proofs.Common.{◌≡◌, ℕ, zero, suc, ◌+◌, ◌-◌, ◌<◌, Option, None, Some, [], ◌∷◌, ◌++◌, refl, sym, ap, ◌∙◌, arith, append_assoc, unwrap_or}
use Rattle.std.proofs.Common.{List, drop, length, slice_set}
use Rattle.std.proofs.lemmas.Grind.{drop-set_at}
use Rattle.hv_tree.specs.Way.{above, line, depth, depth_from}

pub above-more : (up : ℕ → Option ℕ) (n at : ℕ) → above up (suc n) at ≡ above up n (unwrap_or (up at) at)
unfolding above
above-more up n at = refl

pub above-zero : (up : ℕ → Option ℕ) (at : ℕ) → above up 0 at ≡ at
unfolding above
above-zero up at = refl

-- a step more at the top
above-over : (up : ℕ → Option ℕ) (n at : ℕ) → above up (suc n) at ≡ above up 1 (above up n at)
above-over up zero at = ap (above up 1) (sym (above-zero up at))
above-over up (suc n) at = above-more up (suc n) at ∙ above-over up n (unwrap_or (up at) at) ∙ ap (above up 1) (sym (above-more up n at))

pub line-more : (up : ℕ → Option ℕ) (n at : ℕ) → line up (suc n) at ≡ line up n (unwrap_or (up at) at) ++ at ∷ []
unfolding line
line-more up n at = refl

pub line-zero : (up : ℕ → Option ℕ) (at : ℕ) → line up 0 at ≡ []
unfolding line
line-zero up at = refl

pub depth-more : (up : ℕ → Option ℕ) (n at : ℕ) → depth up (suc n) at ≡ depth_from (depth up n) (up at)
unfolding depth
depth-more up n at = refl

pub depth-zero : (up : ℕ → Option ℕ) (at : ℕ) → depth up 0 at ≡ 0
unfolding depth
depth-zero up at = refl

-- the way down in two parts and a step between
pub line-split : (up : ℕ → Option ℕ) (s t at : ℕ) → line up (s + suc t) at ≡ line up s (above up (suc t) at) ++ above up t at ∷ line up t at
line-split up s zero at =
    let p = unwrap_or (up at) at in
    let e : s + suc zero ≡ suc s = omega arith in
    let a : above up (suc zero) at ≡ p = above-more up zero at ∙ above-zero up p in
    ap (λ n. line up n at) e ∙ line-more up s at ∙ (rw (a, above-zero up at, line-zero up at) refl)
line-split up s (suc t) at =
    let p = unwrap_or (up at) at in
    let e : s + suc (suc t) ≡ suc (s + suc t) = omega arith in
    ap (λ n. line up n at) e ∙ line-more up (s + suc t) at ∙ ap (λ xs. xs ++ at ∷ []) (line-split up s t p)
    ∙ append_assoc (line up s (above up (suc t) p)) (above up t p ∷ line up t p) (at ∷ [])
    ∙ (rw (above-more up (suc t) at, above-more up t at, line-more up t at) refl)

-- one id more at the top
pub line-up : (up : ℕ → Option ℕ) (n at : ℕ) → line up (n + 1) at ≡ above up n at ∷ line up n at
line-up up n at =
    let one : n + 1 ≡ 0 + suc n = omega arith in
    ap (λ m. line up m at) one ∙ line-split up 0 n at ∙ ap (λ xs. xs ++ above up n at ∷ line up n at) (line-zero up (above up (suc n) at))

pub above-up : (up : ℕ → Option ℕ) (n at q p : ℕ) → q ≡ above up n at → up q ≡ Some p → p ≡ above up (n + 1) at
above-up up n at q p is e =
    let one : n + 1 ≡ suc n = omega arith in
    let next : above up 1 q ≡ p = above-more up 0 q ∙ above-zero up (unwrap_or (up q) q) ∙ ap (λ o. unwrap_or o q) e in
    sym (ap (λ m. above up m at) one ∙ above-over up n at ∙ ap (above up 1) (sym is) ∙ next)

-- the ids at the end of an array, and one more before them
pub kept-more : (up : ℕ → Option ℕ) (n id at : ℕ) (ids : List ℕ) → length ids ≡ 7 → n < 7 → at ≡ above up n id → drop (7 - n) ids ≡ line up n id
    → drop (7 - (n + 1)) (slice_set ids (7 - 1 - n) at) ≡ line up (n + 1) id
kept-more up n id at ids len lt is e =
    let next : 7 - 1 - n + 1 ≡ 7 - n = omega arith in
    drop-set_at ids (7 - 1 - n) (7 - (n + 1)) at (omega arith) (omega arith)
    ∙ ap (λ k. at ∷ drop k ids) next
    ∙ ap (λ xs. at ∷ xs) e
    ∙ ap (λ q. q ∷ line up n id) is
    ∙ sym (line-up up n id)

-- with the id between, and one that leads to it as its parent does
pub line-parts : (up : ℕ → Option ℕ) (s t n at q p : ℕ) → n ≡ s + suc t → q ≡ above up t at → line up s p ≡ line up s (above up 1 q) → line up n at ≡ line up s p ++ q ∷ line up t at
line-parts up s t n at q p len is leads =
    let over : above up (suc t) at ≡ above up 1 q = above-over up t at ∙ ap (above up 1) (sym is) in
    ap (λ m. line up m at) len ∙ line-split up s t at ∙ ap (λ x. line up s x ++ above up t at ∷ line up t at) over ∙ ap (λ xs. xs ++ above up t at ∷ line up t at) (sym leads) ∙ ap
    (λ x. line up s p ++ x ∷ line up t at) (sym is)

left : (most s : ℕ) → s < most → most - s ≡ suc (most - (s + 1))
left most s lt = omega (arith, lt)

-- one step of so many
module _ (up : ℕ → Option ℕ) (most s at : ℕ) (lt : s < most) where
  pub above-on : above up (most - s) at ≡ above up (most - (s + 1)) (unwrap_or (up at) at)
  above-on = ap (λ n. above up n at) (left most s lt) ∙ above-more up (most - (s + 1)) at

  depth-left : depth up (most - s) at ≡ depth_from (depth up (most - (s + 1))) (up at)
  depth-left = ap (λ n. depth up n at) (left most s lt) ∙ depth-more up (most - (s + 1)) at

  pub depth-top : up at ≡ None → depth up (most - s) at ≡ 0
  depth-top e = depth-left ∙ ap (depth_from (depth up (most - (s + 1)))) e

  pub depth-on : (p : ℕ) → up at ≡ Some p → depth up (most - s) at ≡ depth up (most - (s + 1)) p + 1
  depth-on p e = depth-left ∙ ap (depth_from (depth up (most - (s + 1)))) e

-- an id without a parent is not deep
pub depth-none : (up : ℕ → Option ℕ) (most at : ℕ) → up at ≡ None → depth up most at ≡ 0
depth-none up zero at e = depth-zero up at
depth-none up (suc n) at e = depth-more up n at ∙ ap (depth_from (depth up n)) e
