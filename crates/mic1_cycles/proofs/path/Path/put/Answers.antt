use Rattle.mic1_cycles.proofs.Common.{◌≡◌, ◌≤◌, ℕ, List, [], ◌∷◌, ◌++◌, None, length, sym, ap, ◌∙◌, subst, arith, Write, ports_of, IsTransferred, Answer, Site}
use Rattle.mic1_cycles.proofs.Common.{Memory, Console, trail_of, AreAnswered, IsSite}
use Rattle.micro_word.specs.declared.statement.Mem.TheVariants as mems
use Rattle.mic1_cycles.proofs.path.Path.put.Goals as goal

pub returns-in_ok-push-in-Memory-clause-value : goal.returns-in_ok-push-in-Memory-clause-value
returns-in_ok-push-in-Memory-clause-value c done s mar mdr e fits knows answered =
    let at = c.args.at in
    let t = trail_of c.args.self.now in
    let x : Write = record { at = at; value = c.args.value } in
    let all : AreAnswered e c.deref.result.now = subst (λ (xs : List Answer). AreAnswered e xs) (sym c.deref.ensures.value) answered in
    let inside : IsSite e at Memory = subst (λ (site : Site). IsSite e at site) c.in-Memory.is (c.site_of.ensures e fits knows all) in
    let there : e.word s.mar ≡ e.word at = ap (λ (n : ℕ). e.word n) mar in
    let is : c.push.new.self.items ≡ t.writes ++ x ∷ [] = c.in_ok-push-in-Memory.ensures.items in
    subst (λ (ws : List Write). IsTransferred e.word e.start mems.Write (ports_of e.word e.start s) t None (record t { writes = ws })) (sym is)
    ((c.access_law.ensures e.word e.start).writes (ports_of e.word e.start s) t at c.args.value there (ap (λ (n : ℕ). e.word n) mdr) (omega (arith, there, inside)))

pub returns-in_ok-push-in-Console-clause-value : goal.returns-in_ok-push-in-Console-clause-value
returns-in_ok-push-in-Console-clause-value c done s mar mdr e fits knows answered =
    let at = c.args.at in
    let t = trail_of c.args.self.now in
    let all : AreAnswered e c.deref.result.now = subst (λ (xs : List Answer). AreAnswered e xs) (sym c.deref.ensures.value) answered in
    let console : IsSite e at Console = subst (λ (site : Site). IsSite e at site) c.in-Console.is (c.site_of.ensures e fits knows all) in
    let there : e.word s.mar ≡ 4294967293 = ap (λ (n : ℕ). e.word n) mar ∙ console in
    let size : length e.start.words ≤ 4294967293 = knows.size in
    let is : c.push-in-Console.new.self.items ≡ t.given ++ c.args.value ∷ [] = c.in_ok-push-in-Console.ensures.items in
    subst (λ (vs : List ℕ). IsTransferred e.word e.start mems.Write (ports_of e.word e.start s) t None (record t { given = vs })) (sym is)
    ((c.access_law.ensures e.word e.start).gives (ports_of e.word e.start s) t c.args.value there (ap (λ (n : ℕ). e.word n) mdr) (omega (arith, there, size)))
