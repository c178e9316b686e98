mod RightFacts
