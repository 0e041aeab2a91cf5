use Rattle.std.proofs.Common.{◌≡◌, ℕ, ◌+◌, ◌&&◌, ◌||◌, nat_le, nat_lt, false, refl, ap, ◌∙◌, arith, nat_cmp}
use Rattle.std.specs.FinSet as set
use Rattle.std.specs.FinSet.{contains-empty}
use Rattle.hv_defs.proofs.Ranges.{no_range}
use Rattle.hv_pages.specs.PageSet.{Pages}
use Rattle.hv_partition.proofs.ReplacedPages.{with_twice}
use Rattle.hv_partition.specs.Partition.{PartitionState, pages_in, with_pages}
use Rattle.hv_partition.specs.declared.kind.PageKind.{PageKind}
use Rattle.hv_partition.specs.declared.kind.PageKind.TheVariants.{Loose, Pooled}
use Rattle.hv_machine.proofs.boot.give.Goals as goal

-- a partition to which nothing is written
with_same : (kind : PageKind) (p : PartitionState) → p ≡ with_pages kind (pages_in kind p) p
with_same Loose p = refl
with_same Pooled p = refl

none_in : (pages : Pages) → pages ≡ set.empty → (page : ℕ) → set.contains pages page ≡ false
none_in pages none page = ap (λ (s : Pages). set.contains s page) none ∙ contains-empty nat_cmp page

pub returns-then-from-to-clause-pages : goal.returns-then-from-to-clause-pages
returns-then-from-to-clause-pages g c =
    λ page.
    (no_range (pages_in c.args.kind c.args.root.now).pages c.args.from c.requires.none).members page
    ∙ ap (λ e. nat_le c.args.from page && nat_lt page e) c.if-from-to.true

pub returns-then-from-to-clause-rest : goal.returns-then-from-to-clause-rest
returns-then-from-to-clause-rest g c = with_same c.args.kind c.args.root.now

pub put_run-requires-clause-new : goal.put_run-requires-clause-new
put_run-requires-clause-new g c =
    λ page low high. none_in (pages_in c.args.kind c.reserve.new.self).pages (c.in_ok-reserve.ensures.pages ∙ c.requires.none) page

pub returns-clause-pages : goal.returns-clause-pages
returns-clause-pages g c =
    λ page.
    let end : c.args.from + c.from.result ≡ c.args.to = omega (arith, c.requires.order) in
    let absent = none_in (pages_in c.args.kind c.reserve.new.self).pages (c.in_ok-reserve.ensures.pages ∙ c.requires.none) page in
    c.put_run.ensures.pages page
    ∙ ap (λ b. b || (nat_le c.args.from page && nat_lt page (c.args.from + c.from.result))) absent
    ∙ ap (λ e. nat_le c.args.from page && nat_lt page e) end

pub returns-clause-rest : goal.returns-clause-rest
returns-clause-rest g c =
    let kind = c.args.kind in
    c.put_run.ensures.rest
    ∙ ap (with_pages kind (pages_in kind c.put_run.new.self)) c.in_ok-reserve.ensures.rest
    ∙ with_twice kind (pages_in kind c.put_run.new.self) (pages_in kind c.reserve.new.self) c.args.root.now
