-- The theorems, each of every model and row limit. Assumes nothing.
use Rattle.std.proofs.Common.{◌≡◌, ℕ, ◌↔◌, List, sym, refl, ap, subst}
use mathlib.Core.Logic.Iff
use Rattle.meaning.specs.Syntax.{Mark}
use Rattle.meaning.specs.Tables.{Table, Case, Lawful}
use Rattle.meaning.specs.State.{Stored}
use Rattle.meaning.specs.Run.{Follows}
use Rattle.meaning.specs.Conditions.{Drawn, refused, drawn, conditions}
use Rattle.meaning.specs.Truth.{judgement, Judged, unfit, answers, judging}
use Rattle.meaning.specs.Following.{follows, following, Finished, tracing}
use Rattle.meaning.specs.Schema.{Model}
use Rattle.meaning.specs.Theorems.{Agreement, Judgement, OnePath, FollowingRight, InRange, CursorsOnRows}
use Rattle.meaning.proofs.Opening.{agreement, unfollowed}
use Rattle.meaning.proofs.Fitting.{path_fits}
use Rattle.meaning.proofs.Judging.{judged_satisfied, judged_first}
use Rattle.meaning.proofs.OnePath.{one_path}
use Rattle.meaning.proofs.Followed.{following_iff, agreed_marks, tracing_followed, followed_tracing}
use Rattle.meaning.proofs.RunRanges.{run_ranged, following_ranged, tracing_ranged}
use Rattle.meaning.proofs.Cursors.{run_standing, next_finds}
use Rattle.meaning.proofs.Lives.{following_lawful, tracing_lawful, life_ranged}

-- a path that is not refused
abbrev Answered : Judged → Type 0
Answered (unfit n) = ⊥
Answered (answers n) = Unit {0}

module _ (M : Model) (R : ℕ) where
  pub agreement_stands : Agreement M R
  agreement_stands = record {
    agrees = λ p rs e κ. agreement M R κ p rs e;
    fitness = path_fits M;
    refuses = λ p n e κ. unfollowed M R κ p n e;
  }

  alike : (p : List Mark) (κ : Case) (before : Stored Table) → (judging M R κ p ≡ answers 0) ↔ ((following M R κ p before).verdict ≡ follows)
  alike p κ before = Iff.trans (go (conditions M p) refl) (Iff.symm (following_iff M R κ p before))
    where
      go : (d : Drawn) → conditions M p ≡ d →
          (◌≡◌ {A = Judged} (elim d [ refused n ↦ unfit n | drawn rs ↦ answers (judgement M.schema R κ rs) ]) (answers 0)) ↔ (Lawful M.schema R κ × Follows M R κ p)
      go (refused n) e = (λ q. absurd (subst Answered (sym q) tt), λ q. absurd (unfollowed M R κ p n e q.1))
      go (drawn rs) e = Iff.trans (λ q. cc, λ q. ap answers q) (Iff.trans (judged_satisfied M R κ p rs e) (agreement M R κ p rs e))

  pub judgement_stands : Judgement M R
  judgement_stands = record {
    satisfied = λ p rs e κ. judged_satisfied M R κ p rs e;
    fails = λ p rs e κ. judged_first M R κ p rs e;
    alike = alike;
  }

  traced : (κ : Case) (buffer : ℕ) (before : Stored Table) → Finished (tracing M R κ buffer before).ending →
      Lawful M.schema R κ × Follows M R κ (tracing M R κ buffer before).marks
  traced κ buffer before h =
      (following_iff M R κ (tracing M R κ buffer before).marks before).0
      (ap (λ f. f.verdict) (tracing_followed M R κ buffer before h))

  pub one_path_stands : OnePath M R
  one_path_stands = record {
    one_path = λ p q rs qs e f κ x y. one_path M R κ p q ((agreement M R κ p rs e).0 x).1 ((agreement M R κ q qs f).0 y).1;
    traced = traced;
    retraced = λ p κ buffer before le l f. followed_tracing M R κ buffer before p le l f;
  }

  pub following_stands : FollowingRight M R
  following_stands = record {
    right = λ p κ before. following_iff M R κ p before;
    agreed = λ p κ buffer before. agreed_marks M R κ p buffer before;
    same_tables = λ κ buffer before. tracing_followed M R κ buffer before;
    lawful_left = λ κ before old p buffer. (following_lawful M R κ before old p, tracing_lawful M R κ before old buffer);
  }

  pub range_stands : InRange M R
  range_stands = record {
    in_a_run = λ c κ h. run_ranged M R κ h c.numbers;
    in_what_is_left = λ c κ h before old p buffer. (following_ranged M R κ h c.numbers before old p, tracing_ranged M R κ h c.numbers before old buffer);
    in_a_life = life_ranged M R;
  }

  pub cursors_stand : CursorsOnRows M R
  cursors_stand = record {
    on_a_row = λ κ. run_standing M R κ;
    next_finds = λ κ n s e v. next_finds (s.vars.cursors v) (run_standing M R κ n s e v);
  }
