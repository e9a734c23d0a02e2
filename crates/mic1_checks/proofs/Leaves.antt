-- What a leaf says, and that two halves of a tree make a whole.
use Rattle.mic1_checks.proofs.Common.{◌≡◌, ℕ, true, false, List, [], ◌∷◌, ◌++◌, sym, subst, inl, inr, Contains, cases_Bool, All-push, Contains-push, Micro}
use Rattle.mic1_checks.proofs.Common.{mic1_meaning, IsReady, IsAt, Moment, Moves, Overruns, Environment, Symbols, Answer, Path, Limit, OutOfMap, AreAnswered}
use Rattle.mic1_checks.proofs.Common.{truth, moment, StopsAt, Carries, LeadAlike, LimitAlike, OneEnd, Transfers, TransfersLimits, Counts, Operands}
use Rattle.mic1_checks.proofs.Common.{IsReadyOrArriving, start_moment, CarriedBy, CarriesOver}

-- each question has one answer
pub either : (e : Environment) (answers so not_so : List Answer) (a : Answer) (P : Type 0) → AreAnswered e answers →
    so ≡ answers ++ record a { is = true } ∷ [] → not_so ≡ answers ++ record a { is = false } ∷ [] →
    (AreAnswered e so → P) → (AreAnswered e not_so → P) → P
either e answers so not_so a P all so_is not_is if_so if_not =
    let IsTrueAnswer : Answer → Type 0 = λ (x : Answer). truth e x.question (e.word x.number) ≡ x.is in
    elim (cases_Bool (truth e a.question (e.word a.number))) [
      | inl t1 ↦ if_so (subst (λ (xs : List Answer). AreAnswered e xs) (sym so_is) (All-push IsTrueAnswer answers (record a { is = true }) all t1))
      | inr t0 ↦ if_not (subst (λ (xs : List Answer). AreAnswered e xs) (sym not_is) (All-push IsTrueAnswer answers (record a { is = false }) all t0))
    ]

module _ (e : Environment) (s s' : Symbols) (store store' : List ℕ) (entry entry' row : ℕ) (operands : Operands) where
  pub more : (xs ys : List Counts) → ((c : Counts) → Contains xs c → Contains ys c) →
      CarriesOver e s s' store store' entry entry' row operands xs → CarriesOver e s s' store store' entry entry' row operands ys
  more xs ys kept h =
      record {
        moves = λ before o stalls spent to left m.
            let by : CarriedBy xs row store' before o entry' spent (start_moment e stalls entry' s') to = h.moves before o stalls spent to left m in
            record { counts = by.counts; is_leaf = kept by.counts by.is_leaf; its_row = by.its_row; carries = by.carries };
        limits = h.limits;
      }

  module _ (one : OneEnd) (first last : Path) (from : (stalls : ℕ) → moment e stalls entry first ≡ start_moment e stalls entry s) where
    -- the first store is refused otherwise
    pub refused : (n : ℕ) → ((stalls : ℕ) → StopsAt e store stalls entry n OutOfMap first last) → CarriesOver e s s' store store' entry entry' row operands []
    refused n stops =
        record {
          moves = λ before o stalls spent to left m.
              let h : Moves mic1_meaning store (IsAt mic1_meaning IsReady entry o) before (moment e stalls entry first) spent to =
              subst (λ (q : Moment Micro). Moves mic1_meaning store (IsAt mic1_meaning IsReady entry o) before q spent to) (sym (from stalls)) m in
              absurd (one.no_boundary store before o stalls entry n spent e OutOfMap first last to (stops stalls) h);
          limits = λ before o stalls left m.
              let h : Overruns mic1_meaning store (IsAt mic1_meaning IsReady entry o) before (moment e stalls entry first) left =
              subst (λ (q : Moment Micro). Overruns mic1_meaning store (IsAt mic1_meaning IsReady entry o) before q left) (sym (from stalls)) m in
              absurd (one.out_of_map store before o stalls entry n e first last left (stops stalls) h);
        }

    module _ (first' last' : Path) (from' : (stalls : ℕ) → moment e stalls entry' first' ≡ start_moment e stalls entry' s') where
      pub alike : Transfers → (c : Counts) → c.row ≡ row →
          ((stalls : ℕ) → LeadAlike store store' stalls entry entry' c.first c.second e operands first first' last last') →
          CarriesOver e s s' store store' entry entry' row operands (c ∷ [])
      alike transfers c its leads =
          record {
            moves = λ before o stalls spent to left m.
                let h : Moves mic1_meaning store (IsAt mic1_meaning IsReady entry o) before (moment e stalls entry first) spent to =
                subst (λ (q : Moment Micro). Moves mic1_meaning store (IsAt mic1_meaning IsReady entry o) before q spent to) (sym (from stalls)) m in
                let carried : Carries store' before o entry' c.first c.second spent (moment e stalls entry' first') to =
                transfers store store' before o stalls entry entry' c.first c.second spent e operands first first' last last' to (leads stalls) left h in
                record {
                  counts = c;
                  is_leaf = Contains-push [] c;
                  its_row = its;
                  carries = subst (λ (q : Moment Micro). Carries store' before o entry' c.first c.second spent q to) (from' stalls) carried;
                };
            limits = λ before o stalls left m.
                let h : Overruns mic1_meaning store (IsAt mic1_meaning IsReady entry o) before (moment e stalls entry first) left =
                subst (λ (q : Moment Micro). Overruns mic1_meaning store (IsAt mic1_meaning IsReady entry o) before q left) (sym (from stalls)) m in
                absurd (one.no_limit store store' before o stalls entry entry' c.first c.second e operands first first' last last' left (leads stalls) h);
          }

      pub limited : TransfersLimits → (n n' : ℕ) → ((stalls : ℕ) → LimitAlike store store' stalls entry entry' n n' e first first' last last') →
          CarriesOver e s s' store store' entry entry' row operands []
      limited transfers n n' leads =
          record {
            moves = λ before o stalls spent to left m.
                let h : Moves mic1_meaning store (IsAt mic1_meaning IsReady entry o) before (moment e stalls entry first) spent to =
                subst (λ (q : Moment Micro). Moves mic1_meaning store (IsAt mic1_meaning IsReady entry o) before q spent to) (sym (from stalls)) m in
                absurd (one.no_boundary store before o stalls entry n spent e Limit first last to (leads stalls).stops h);
            limits = λ before o stalls left m.
                let h : Overruns mic1_meaning store (IsAt mic1_meaning IsReady entry o) before (moment e stalls entry first) left =
                subst (λ (q : Moment Micro). Overruns mic1_meaning store (IsAt mic1_meaning IsReady entry o) before q left) (sym (from stalls)) m in
                subst (λ (q : Moment Micro). Overruns mic1_meaning store' (IsAt mic1_meaning IsReadyOrArriving entry' o) before q left) (from' stalls)
                (transfers store store' before o stalls entry entry' n n' e first first' last last' left (leads stalls) h);
          }
