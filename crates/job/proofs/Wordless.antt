-- A job without kind 5 has the words that the host gave.
-- Assumes nothing.
use Prim.Native.Nat.{ℕ, zero, suc, ◌+◌}
use mathlib.Core.Path.{◌≡◌, refl, ap, ◌∙◌}
use mathlib.Core.Bool.{true}
use mathlib.Core.List.{List}
use lib.ListN.{length, drop}
use Rattle.lent.specs.Little.{Bytes}
use Rattle.job.specs.declared.records.Kind.{Kind}
use Rattle.job.specs.declared.records.Kind.TheVariants.{Run, Register, Setup, Host, End, Other}
use Rattle.job.specs.Job.{size_of, kind_of, Content, content_from, unnamed, Load, load_of}
use Rattle.job.specs.Loads.{Loads, wordless, wordless_by}
use Rattle.job.proofs.Rules.{impossible}
use Rattle.job.proofs.Lawful.{loaded_from}

-- no record names the words
unnamed_stay : (n : ℕ) (left : List ℕ) (c : Content) → wordless n left ≡ true → (content_from n left c).host ≡ c.host
unfolding wordless content_from
unnamed_stay zero left c h = refl
unnamed_stay (suc n) left c h = by (kind_of left) refl h (unnamed_stay n (drop (6 + size_of left) left))
  where
    by : (k : Kind) → kind_of left ≡ k → wordless_by k (wordless n (drop (6 + size_of left) left)) ≡ true
        → ((d : Content) → wordless n (drop (6 + size_of left) left) ≡ true → (content_from n (drop (6 + size_of left) left) d).host ≡ d.host)
        → (content_from (suc n) left c).host ≡ c.host
    by Run e w f = rw e (f _ w)
    by Register e w f = rw e (f _ w)
    by Setup e w f = rw e (f _ w)
    by Host e w f = impossible (cc)
    by End e w f = rw e
    by Other e w f = rw e

pub host_stays : (job host cells : List ℕ) → Bytes job → Loads job host cells → wordless (length job) job ≡ true → (load_of job host cells).machine.host ≡ host
host_stays job host cells bytes loads h =
    ap (λ (l : Load). l.machine.host) (loaded_from job host cells bytes loads) ∙ unnamed_stay (length job) job (unnamed host (length cells)) h
