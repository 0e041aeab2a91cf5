-- Lines by rising phases, and where they part.
use Rattle.std.proofs.Common.{◌≡◌, ℕ, ◌<◌, ◌≤◌, List, [], ◌∷◌, ◌++◌, refl, sym, ap, arith, inl, inr, ◌⊎◌, map, All, Global}
use Rattle.std.proofs.lemmas.Bool.{cases_lt}
use Rattle.std.proofs.lemmas.List.Elements.{All-append, All-cons, All-head, All-nil, All-tail, All-weaker}
use Rattle.hv_phases.specs.Lines.{AreApart}
use Rattle.hv_phases.proofs.AskedOfProcessor.{Actions, Lines}
use Rattle.hv_script.specs.declared.line.Line.{Line}
use Rattle.hv_phases.specs.Read.{AreSorted}

module _ {X : Type 0} where
  first_same : (x y : X) (xs ys : List X) → x ∷ xs ≡ y ∷ ys → x ≡ y
  first_same x y xs ys same = cc

  rest_same : (x y : X) (xs ys : List X) → x ∷ xs ≡ y ∷ ys → xs ≡ ys
  rest_same x y xs ys same = cc

  -- the first of two lists ends before another cut, or behind it
  pub record Within (xs ys bs cs : List X) : Type 0 where
    pub rest : List X
    pub front : bs ≡ xs ++ rest
    pub back : ys ≡ rest ++ cs

  pub record Beyond (xs ys bs cs : List X) : Type 0 where
    pub one : X
    pub rest : List X
    pub front : xs ≡ bs ++ one ∷ rest
    pub back : cs ≡ one ∷ (rest ++ ys)

  abbrev pub Cuts : List X → List X → List X → List X → Type 0
  Cuts xs ys bs cs = Within xs ys bs cs ⊎ Beyond xs ys bs cs

  with_first : (x b : X) (xs ys bs cs : List X) → x ≡ b → Cuts xs ys bs cs → Cuts (x ∷ xs) ys (b ∷ bs) cs
  with_first x b xs ys bs cs same (inl is) =
      inl (record { rest = is.rest; front = λ i. sym same i ∷ is.front i; back = is.back })
  with_first x b xs ys bs cs same (inr is) =
      inr (record { one = is.one; rest = is.rest; front = λ i. same i ∷ is.front i; back = is.back })

  pub cuts : (xs ys bs cs : List X) → xs ++ ys ≡ bs ++ cs → Cuts xs ys bs cs
  cuts [] ys bs cs same = inl (record { rest = bs; front = refl; back = same })
  cuts (x ∷ xs) ys [] cs same = inr (record { one = x; rest = xs; front = refl; back = sym same })
  cuts (x ∷ xs) ys (b ∷ bs) cs same = with_first x b xs ys bs cs (first_same x b _ _ same) (cuts xs ys bs cs (rest_same x b _ _ same))

  -- the parts of a list of which something is so
  pub All-left : (P : X → Type 0) (xs ys : List X) → All P (xs ++ ys) → All P xs
  All-left P [] ys all = All-nil P
  All-left P (x ∷ xs) ys all = All-cons P x xs (All-head P x (xs ++ ys) all) (All-left P xs ys (All-tail P x (xs ++ ys) all))

  pub All-right : (P : X → Type 0) (xs ys : List X) → All P (xs ++ ys) → All P ys
  All-right P [] ys all = all
  All-right P (x ∷ xs) ys all = All-right P xs ys (All-tail P x (xs ++ ys) all)

  pub All-both : (P Q : X → Type 0) (R : X → Type 0) → ((x : X) → P x → Q x → R x) → (xs : List X) → All P xs → All Q xs → All R xs
  All-both P Q R join [] p q = All-nil R
  All-both P Q R join (x ∷ xs) p q =
      All-cons R x xs (join x (All-head P x xs p) (All-head Q x xs q)) (All-both P Q R join xs (All-tail P x xs p) (All-tail Q x xs q))

-- a line with other actions is in its phase
pub lefts_all : (P : ℕ → Type 0) (line : Line Global) (acts : Actions) → P line.phase → All (λ l. P l.phase) (map (λ action. record line { action = action }) acts)
lefts_all P line [] p = All-nil (λ (l : Line Global). P l.phase)
lefts_all P line (a ∷ acts) p =
    All-cons (λ (l : Line Global). P l.phase) (record line { action = a }) (map (λ action. record line { action = action }) acts) p (lefts_all P line acts p)

abbrev pub IsFrom : ℕ → Line Global → Type 0
IsFrom phase l = phase ≤ l.phase

-- what stands behind a line is of its phase or a later one
pub sorted_right : (xs ys : Lines) → AreSorted (xs ++ ys) → AreSorted ys
sorted_right [] ys sorted = sorted
sorted_right (x ∷ xs) ys sorted = sorted_right xs ys sorted.1

pub sorted_across : (xs ys : Lines) → AreSorted (xs ++ ys) → All (λ x. All (IsFrom x.phase) ys) xs
sorted_across [] ys sorted = All-nil (λ (x : Line Global). All (IsFrom x.phase) ys)
sorted_across (x ∷ xs) ys sorted =
    All-cons (λ (x : Line Global). All (IsFrom x.phase) ys) x xs (All-right (IsFrom x.phase) xs ys sorted.0) (sorted_across xs ys sorted.1)

-- so what stands before it is of its phase or an earlier one
pub sorted_before : (xs : Lines) (line : Line Global) (ys : Lines) → AreSorted (xs ++ line ∷ ys) → All (λ x. x.phase ≤ line.phase) xs
sorted_before xs line ys sorted =
    All-weaker (λ (x : Line Global). All (IsFrom x.phase) (line ∷ ys)) (λ (x : Line Global). x.phase ≤ line.phase) (λ x all. All-head (IsFrom x.phase) line ys all) xs
    (sorted_across xs (line ∷ ys) sorted)

-- other lines behind, which are as late
pub sorted_other : (xs ys zs : Lines) → AreSorted (xs ++ ys) → AreSorted zs → ((n : ℕ) → All (IsFrom n) ys → All (IsFrom n) zs) → AreSorted (xs ++ zs)
sorted_other [] ys zs sorted more late = more
sorted_other (x ∷ xs) ys zs sorted more late = (
  All-append (IsFrom x.phase) xs zs (All-left (IsFrom x.phase) xs ys sorted.0) (late x.phase (All-right (IsFrom x.phase) xs ys sorted.0)),
  sorted_other xs ys zs sorted.1 more late,
)

pub late_lefts : (line : Line Global) (acts : Actions) (ys : Lines) (n : ℕ) → All (IsFrom n) (line ∷ ys) → All (IsFrom n) (map (λ action. record line { action = action }) acts ++ ys)
late_lefts line acts ys n late =
    All-append (IsFrom n) (map (λ action. record line { action = action }) acts) ys (lefts_all (λ p. n ≤ p) line acts (All-head (IsFrom n) line ys late)) (All-tail (IsFrom n) line ys late)

pub sorted_lefts : (line : Line Global) (acts : Actions) (ys : Lines) → AreSorted (line ∷ ys) → AreSorted (map (λ action. record line { action = action }) acts ++ ys)
sorted_lefts line [] ys sorted = sorted.1
sorted_lefts line (a ∷ acts) ys sorted = (
  late_lefts line acts ys line.phase (All-cons (IsFrom line.phase) line ys (omega arith) sorted.0),
  sorted_lefts line acts ys sorted,
)

-- lines part at a phase
pub record PartsAt (phase : ℕ) (lines : Lines) : Type 0 where
  pub before : Lines
  pub after : Lines
  pub all : lines ≡ before ++ after
  pub early : All (λ l. l.phase < phase) before
  pub late : All (IsFrom phase) after

parts_by : (phase : ℕ) (line : Line Global) (lines : Lines) → AreSorted (line ∷ lines) → PartsAt phase lines → (line.phase < phase) ⊎ (phase ≤ line.phase) → PartsAt phase (line ∷ lines)
parts_by phase line lines sorted rest (inl less) = record {
  before = line ∷ rest.before;
  after = rest.after;
  all = ap (λ (l : Lines). line ∷ l) rest.all;
  early = All-cons (λ (l : Line Global). l.phase < phase) line rest.before less rest.early;
  late = rest.late;
}
parts_by phase line lines sorted rest (inr more) = record {
  before = [];
  after = line ∷ lines;
  all = refl;
  early = All-nil (λ (l : Line Global). l.phase < phase);
  late = All-cons (IsFrom phase) line lines more (All-weaker (IsFrom line.phase) (IsFrom phase) (λ l from. omega (arith, more, from)) lines sorted.0);
}

pub parts_at : (phase : ℕ) (lines : Lines) → AreSorted lines → PartsAt phase lines
parts_at phase [] sorted = record { before = []; after = []; all = refl; early = All-nil (λ (l : Line Global). l.phase < phase); late = All-nil (IsFrom phase) }
parts_at phase (line ∷ lines) sorted = parts_by phase line lines sorted (parts_at phase lines sorted.1) (cases_lt line.phase phase)

pub apart_at : (phase : ℕ) (before after : Lines) → All (λ l. l.phase < phase) before → All (IsFrom phase) after → AreApart before after
apart_at phase before after early late =
    All-weaker (λ (l : Line Global). l.phase < phase) (λ (l : Line Global). All (λ n. l.phase < n.phase) after)
    (λ l less. All-weaker (IsFrom phase) (λ (n : Line Global). l.phase < n.phase) (λ n from. omega (arith, less, from)) after late) before early
