-- Reading the processor that a line names.
use Rattle.std.proofs.Common.{◌≡◌, ℕ, ◌<◌, ◌^◌, ◌∷◌, ◌++◌, refl, sym, ap, ◌∙◌, subst, arith, Option, None, Some, All, decimal, SomeIff}
use Rattle.std.specs.Str.Parse.{IsNumeral, digits_value}
use Rattle.std.proofs.lemmas.Fmt.{decimal_is_IsNumeral}
use Rattle.std.proofs.lemmas.List.Elements.{All-head}
use Rattle.hv_policy.specs.declared.event.Caller.{Caller}
use Rattle.hv_check.specs.From.{IsNamedIn}
use Rattle.hv_check.specs.Parted.{IsAround, IsNowhere}
use Rattle.hv_phases.proofs.LinesByPhase.{All-right}
use Rattle.hv_check.proofs.LineTexts.{Bytes, IsNot, dot, no_digit, parted, space}

-- a text parts in one way at the first byte of a value
around_one : (byte : ℕ) (text before behind xs ys : Bytes) → IsAround byte text before behind → All (IsNot byte) xs → text ≡ xs ++ byte ∷ ys → (before ≡ xs) × (behind ≡ ys)
around_one byte text before behind xs ys is none all = parted byte before xs behind ys is.first none (sym is.all ∙ all)

around_none : (byte : ℕ) (text xs ys : Bytes) → IsNowhere byte text → text ≡ xs ++ byte ∷ ys → ⊥
around_none byte text xs ys is all = All-head (IsNot byte) byte ys (All-right (IsNot byte) xs (byte ∷ ys) (subst (IsNowhere byte) all is)) refl

-- what digits write is read
abbrev pub IsReadAs : Bytes → Option ℕ → Type 0
IsReadAs word r = SomeIff r (IsNumeral 10 word × (digits_value 10 word < 2 ^ 64)) (digits_value 10 word)

read_decimal : (n : ℕ) (word : Bytes) (r : Option ℕ) → n < 2 ^ 64 → word ≡ decimal n → IsReadAs word r → r ≡ Some n
read_decimal n word None few same is =
    let numeral = decimal_is_IsNumeral n few in
    let here : IsReadAs (decimal n) None = subst (λ (w : Bytes). IsReadAs w None) same is in
    absurd (here (numeral.0, subst (λ (v : ℕ). v < 2 ^ 64) (sym numeral.1) few))
read_decimal n word (Some x) few same is =
    let numeral = decimal_is_IsNumeral n few in
    let here : IsReadAs (decimal n) (Some x) = subst (λ (w : Bytes). IsReadAs w (Some x)) same is in
    ap Some (here.1 ∙ numeral.1)

module _ (text : Bytes) (by : Caller) (named : IsNamedIn text by) where
  abbrev third : Bytes
  third = decimal by.vp ++ 32 ∷ named.rest

  abbrev second : Bytes
  second = decimal by.part ++ 46 ∷ third

  no_space : (n : ℕ) → n < 2 ^ 64 → All (IsNot 32) (decimal n)
  no_space n few = no_digit 32 (decimal n) space (decimal_is_IsNumeral n few).0.1

  no_dot : All (IsNot 46) (decimal by.part)
  no_dot = no_digit 46 (decimal by.part) dot (decimal_is_IsNumeral by.part named.part).0.1

  wide : by.vp < 2 ^ 64
  wide = let few = named.vp in omega (arith, few)

  pub no_number : IsNowhere 32 text → ⊥
  no_number none = around_none 32 text (decimal named.number) second none named.all

  module _ (before behind : Bytes) (first : IsAround 32 text before behind) where
    behind_is : behind ≡ second
    behind_is = (around_one 32 text before behind (decimal named.number) second first (no_space named.number named.few) named.all).1

    pub no_part : IsNowhere 46 behind → ⊥
    no_part none = around_none 46 behind (decimal by.part) third none behind_is

    module _ (part rest : Bytes) (middle : IsAround 46 behind part rest) where
      parts : (part ≡ decimal by.part) × (rest ≡ third)
      parts = around_one 46 behind part rest (decimal by.part) third middle no_dot behind_is

      pub no_vp : IsNowhere 32 rest → ⊥
      no_vp none = around_none 32 rest (decimal by.vp) named.rest none parts.1

      pub part_read : (r : Option ℕ) → IsReadAs part r → r ≡ Some by.part
      part_read r is = read_decimal by.part part r named.part parts.0 is

      module _ (vp end : Bytes) (last : IsAround 32 rest vp end) where
        pub vp_read : (r : Option ℕ) → IsReadAs vp r → r ≡ Some by.vp
        vp_read r is = read_decimal by.vp vp r wide (around_one 32 rest vp end (decimal by.vp) named.rest last (no_space by.vp wide) parts.1).0 is

        -- so it is the processor that was read
        pub by_read : (p v : ℕ) (r : Option Caller) → IsReadAs part (Some p) → IsReadAs vp (Some v) → (v < 2 ^ 32 → r ≡ Some (record { part = p; vp = v })) → r ≡ Some by
        by_read p v r is_p is_v made =
            let same_p : p ≡ by.part = let e = part_read (Some p) is_p in cc in
            let same_v : v ≡ by.vp = let e = vp_read (Some v) is_v in cc in
            made (subst (λ (n : ℕ). n < 2 ^ 32) (sym same_v) named.vp) ∙ (λ i. Some (record { part = same_p i; vp = same_v i }))
